use Rattle.vx_tick.proofs.OneTick.{tick_is_stepped, stepped_is_tick, steps_keep_maps}
use Rattle.vx_tick.proofs.laws.there_is_one_tick.Goals as goal

pub returns-clause-only : goal.returns-clause-only
returns-clause-only c = tick_is_stepped

pub returns-clause-tick : goal.returns-clause-tick
returns-clause-tick c = stepped_is_tick

pub returns-clause-map : goal.returns-clause-map
returns-clause-map c = steps_keep_maps
