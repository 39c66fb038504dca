use Rattle.vx_piston.proofs.Restless.{restless_heeds, others_stay}
use Rattle.vx_piston.proofs.laws.restless_pistons_move.Goals as goal

pub returns-clause-heeds : goal.returns-clause-heeds
returns-clause-heeds c = restless_heeds

pub returns-clause-others : goal.returns-clause-others
returns-clause-others c = others_stay
