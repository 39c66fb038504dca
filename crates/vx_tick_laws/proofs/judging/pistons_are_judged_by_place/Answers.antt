use Rattle.vx_tick_laws.proofs.Judged.{judged_by_place}
use Rattle.vx_tick_laws.proofs.judging.pistons_are_judged_by_place.Goals as goal

pub returns : goal.returns
returns c = judged_by_place
