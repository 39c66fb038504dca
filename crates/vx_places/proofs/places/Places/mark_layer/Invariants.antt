use Rattle.vx_places.specs.Areas.{in_area, marked_by}
use Rattle.vx_places.specs.Around.{is_such_around, at_number, below_number, layer_of, row_of, Adds}
use Rattle.vx_places.proofs.places.Places.mark_layer.Given as goal

-- those of the rows so far are added
abbrev pub invariant-loop-z : goal.invariant-loop-z
invariant-loop-z l =
    Adds (below_number row_of
    (at_number layer_of (in_area (is_such_around (marked_by l.page l.fn.bounds) l.fn.p l.fn.steps) l.fn.area) l.fn.y) l.z)
    l.fn.self l.self
