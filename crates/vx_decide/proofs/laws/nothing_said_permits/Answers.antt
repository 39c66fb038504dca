use Rattle.vx_decide.proofs.Defaults.{nothing_said_permits, empty_world_permits_all}
use Rattle.vx_decide.proofs.laws.nothing_said_permits.Goals as goal

pub returns-clause-said : goal.returns-clause-said
returns-clause-said c = nothing_said_permits

pub returns-clause-empty : goal.returns-clause-empty
returns-clause-empty c = empty_world_permits_all
