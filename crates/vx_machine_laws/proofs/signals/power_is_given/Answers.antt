use Rattle.vx_machine_laws.proofs.Powering.{givers_are_these, drivers_are_these}
use Rattle.vx_machine_laws.proofs.signals.power_is_given.Goals as goal

pub returns-clause-gives : goal.returns-clause-gives
returns-clause-gives c = givers_are_these

pub returns-clause-drives : goal.returns-clause-drives
returns-clause-drives c = drivers_are_these
