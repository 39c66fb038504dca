use Rattle.std.proofs.Common.{◌-◌, ◌≤◌}
use Rattle.vx_cells.specs.Maps.{cell_on}
use Rattle.vx_places.specs.Around.{is_kind_around, below_number, row_of, Adds}
use Rattle.vx_places.proofs.places.Places.mark_around.Given as goal

-- those of the rows so far are added
abbrev pub invariant-loop-next : goal.invariant-loop-next
invariant-loop-next l = record {
  least : l.initial.next ≤ l.next;
  added : Adds (below_number row_of (is_kind_around l.fn.kind (cell_on l.fn.map) l.fn.p l.fn.steps) l.next) l.fn.self l.self;
}

abbrev pub decreases-loop-next : goal.decreases-loop-next
decreases-loop-next l = l.end - l.next
