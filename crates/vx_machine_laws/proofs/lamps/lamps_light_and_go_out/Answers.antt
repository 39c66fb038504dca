use Rattle.vx_machine_laws.proofs.Nexts.{lamps_light, lamps_go_out}
use Rattle.vx_machine_laws.proofs.lamps.lamps_light_and_go_out.Goals as goal

pub returns-clause-light : goal.returns-clause-light
returns-clause-light c = lamps_light

pub returns-clause-out : goal.returns-clause-out
returns-clause-out c = lamps_go_out
