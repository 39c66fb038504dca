use Rattle.vx_piston.proofs.MoveLaws.{begins}
use Rattle.vx_piston.proofs.laws.moves_begin_with_pistons.Goals as goal

pub returns : goal.returns
returns c = begins
