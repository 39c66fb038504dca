use Rattle.vx_machine_laws.proofs.Pushing.{unpowered_draw}
use Rattle.vx_machine_laws.proofs.movers.unpowered_pistons_draw.Goals as goal

pub returns : goal.returns
returns c = unpowered_draw
