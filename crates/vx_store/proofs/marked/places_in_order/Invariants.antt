use Rattle.std.proofs.Common.{◌≡◌, ◌-◌, ◌≤◌, ◌++◌}
use Rattle.vx_geom.specs.Sizes.{sector_cells}
use Rattle.vx_store.specs.MarkedPlaces.{marked_places}
use Rattle.vx_store.proofs.MarkedPlaces.{left_from}
use Rattle.vx_store.proofs.marked.places_in_order.Given as goal

-- what is found so far, and what is marked from here on
abbrev pub invariant-loop-index : goal.invariant-loop-index
invariant-loop-index g l = record {
  within : l.from ≤ sector_cells l.bounds;
  all : l.found.items ++ left_from l.bounds l.sector (g.M.InOrder.words l.marks) l.from ≡ marked_places l.bounds l.sector (g.M.InOrder.words l.marks);
}

abbrev pub decreases-loop-index : goal.decreases-loop-index
decreases-loop-index g l = sector_cells l.bounds - l.from
