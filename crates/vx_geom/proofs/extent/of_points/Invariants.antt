use Rattle.std.proofs.Common.{◌≡◌, drop}
use Rattle.vx_geom.specs.Extent.{of_points, widened_by}
use Rattle.vx_geom.proofs.extent.of_points.Given as goal

abbrev pub invariant-loop-point : goal.invariant-loop-point
invariant-loop-point l = record {
  widest : widened_by l.extent (drop l.point-index l.points) ≡ of_points l.points;
}
