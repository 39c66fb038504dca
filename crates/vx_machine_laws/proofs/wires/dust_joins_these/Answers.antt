use Rattle.vx_machine_laws.proofs.Wiring.{dust_joins_these, torches_out_are_joined}
use Rattle.vx_machine_laws.proofs.wires.dust_joins_these.Goals as goal

pub returns-clause-joins : goal.returns-clause-joins
returns-clause-joins c = dust_joins_these

pub returns-clause-out : goal.returns-clause-out
returns-clause-out c = torches_out_are_joined
