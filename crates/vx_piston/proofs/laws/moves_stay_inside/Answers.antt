use Rattle.vx_piston.proofs.MoveLaws.{inside}
use Rattle.vx_piston.proofs.laws.moves_stay_inside.Goals as goal

pub returns : goal.returns
returns c = inside
