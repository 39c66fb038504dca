use Rattle.vx_machine_laws.proofs.Powering.{fed_are_these}
use Rattle.vx_machine_laws.proofs.signals.dust_is_fed.Goals as goal

pub returns : goal.returns
returns c = fed_are_these
