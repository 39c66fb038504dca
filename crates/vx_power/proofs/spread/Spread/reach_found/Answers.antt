use Rattle.std.specs.Option.{option_to_list}
use Rattle.std.proofs.Common.{ap}
use Rattle.vx_power.proofs.Reaching.{reaches_nothing}
use Rattle.vx_power.proofs.spread.Spread.reach_found.Goals as goal

pub returns-in-None : goal.returns-in-None
returns-in-None g c = reaches_nothing (ap option_to_list c.in-None.is)
