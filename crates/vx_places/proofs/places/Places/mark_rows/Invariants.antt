use Rattle.std.proofs.Common.{◌-◌, ◌≤◌}
use Rattle.vx_cells.specs.Maps.{cell_on}
use Rattle.vx_places.specs.Around.{is_kind_around, between_numbers, below_number, row_of, column_of, Adds}
use Rattle.vx_places.proofs.places.Places.mark_rows.Given as goal

-- those of the columns so far are added
abbrev pub invariant-loop-west : goal.invariant-loop-west
invariant-loop-west l = record {
  least : l.initial.west ≤ l.west;
  added : Adds (below_number column_of
      (between_numbers row_of (is_kind_around l.fn.kind (cell_on l.fn.map) l.fn.p l.fn.steps) l.fn.north l.fn.south) l.west)
      l.fn.self l.self;
}

abbrev pub decreases-loop-west : goal.decreases-loop-west
decreases-loop-west l = l.end - l.west
