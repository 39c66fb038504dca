use Rattle.vx_machine_laws.proofs.Wiring.{dust_links_to_these}
use Rattle.vx_machine_laws.proofs.wires.dust_links_to_these.Goals as goal

pub returns : goal.returns
returns c = dust_links_to_these
