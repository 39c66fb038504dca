use Rattle.vx_cells.specs.Maps.{cell_on}
use Rattle.vx_places.specs.Areas.{in_area}
use Rattle.vx_places.specs.Around.{is_kind_around, below_number, layer_of, Adds}
use Rattle.vx_places.proofs.places.Places.mark_area.Given as goal

-- those of the layers so far are added
abbrev pub invariant-loop-y : goal.invariant-loop-y
invariant-loop-y l =
    Adds (below_number layer_of (in_area (is_kind_around l.fn.kind (cell_on l.fn.map) l.fn.p l.fn.steps) l.fn.area) l.y) l.fn.self l.self
