use Rattle.vx_machine_laws.proofs.Powering.{strong_are_these, powered_are_these}
use Rattle.vx_machine_laws.proofs.signals.conductors_have_power.Goals as goal

pub returns-clause-strong : goal.returns-clause-strong
returns-clause-strong c = strong_are_these

pub returns-clause-powered : goal.returns-clause-powered
returns-clause-powered c = powered_are_these
