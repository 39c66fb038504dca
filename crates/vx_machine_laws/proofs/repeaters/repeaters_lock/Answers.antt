use Rattle.vx_machine_laws.proofs.Locking.{locked_are_these, others_do_not_lock}
use Rattle.vx_machine_laws.proofs.repeaters.repeaters_lock.Goals as goal

pub returns-clause-locked : goal.returns-clause-locked
returns-clause-locked c = locked_are_these

pub returns-clause-others : goal.returns-clause-others
returns-clause-others c = others_do_not_lock
