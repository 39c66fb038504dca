use Rattle.vx_geom.proofs.Enclosing.{shapes_lie_within}
use Rattle.vx_geom.proofs.laws.shapes_lie_within.Goals as goal

pub returns : goal.returns
returns c = shapes_lie_within
