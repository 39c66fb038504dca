use Rattle.vx_geom.proofs.OrderLemmas.{positions_ordered}
use Rattle.vx_geom.proofs.laws.positions_are_ordered.Goals as goal

pub returns : goal.returns
returns c = positions_ordered
