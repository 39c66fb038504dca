use Rattle.vx_machine_laws.proofs.Pushing.{settled_stay, others_stay, restless_are_these}
use Rattle.vx_machine_laws.proofs.movers.others_do_not_move.Goals as goal

pub returns-clause-settled : goal.returns-clause-settled
returns-clause-settled c = settled_stay

pub returns-clause-others : goal.returns-clause-others
returns-clause-others c = others_stay

pub returns-clause-restless : goal.returns-clause-restless
returns-clause-restless c = restless_are_these
