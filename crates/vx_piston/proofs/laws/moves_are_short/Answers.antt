use Rattle.vx_piston.proofs.MoveLaws.{short}
use Rattle.vx_piston.proofs.Pushes.{pushes}
use Rattle.vx_piston.proofs.laws.moves_are_short.Goals as goal

pub returns-clause-cells : goal.returns-clause-cells
returns-clause-cells c = short

pub returns-clause-pushed : goal.returns-clause-pushed
returns-clause-pushed c = pushes
