use Rattle.vx_machine_laws.proofs.Powering.{activators_are_these, active_lamps_are_these, active_pistons_are_these}
use Rattle.vx_machine_laws.proofs.signals.activity_has_a_cause.Goals as goal

pub returns-clause-by : goal.returns-clause-by
returns-clause-by c = activators_are_these

pub returns-clause-lamps : goal.returns-clause-lamps
returns-clause-lamps c = active_lamps_are_these

pub returns-clause-pistons : goal.returns-clause-pistons
returns-clause-pistons c = active_pistons_are_these
