use Rattle.std.proofs.Common.{◌≡◌, ◌+◌, ◌≤◌, drop, count_by}
use Rattle.std.specs.List.{list_any}
use Rattle.vx_geom.specs.Polygon.{edges, edges_after, on_edge, meets_ray}
use Rattle.vx_geom.proofs.polygon.in_polygon.Given as goal

abbrev pub invariant-loop-to : goal.invariant-loop-to
invariant-loop-to l = record {
  counted : l.met ≤ l.to-index;
  touched : list_any (on_edge l.p) (edges_after l.from (drop l.to-index l.points)) ≡ list_any (on_edge l.p) (edges l.points);
  met_all : l.met + count_by (meets_ray l.p) (edges_after l.from (drop l.to-index l.points)) ≡ count_by (meets_ray l.p) (edges l.points);
}
