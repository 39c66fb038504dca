use Rattle.std.proofs.Common.{◌≡◌, None, drop}
use Rattle.vx_geom.specs.Polygon.{edges, edges_after}
use Rattle.vx_geom.specs.Row.{with_edges}
use Rattle.vx_geom.proofs.polygon.row_of.Given as goal

abbrev pub invariant-loop-to : goal.invariant-loop-to
invariant-loop-to l =
    with_edges l.z l.row (edges_after l.from (drop l.to-index l.points)) ≡ with_edges l.z None (edges l.points)
