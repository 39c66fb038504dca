use Rattle.vx_power.proofs.Distant.{levels_are_local}
use Rattle.vx_power.proofs.laws.levels_are_local.Goals as goal

pub returns : goal.returns
returns c = levels_are_local
