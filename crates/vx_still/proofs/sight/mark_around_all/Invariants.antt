use Rattle.std.proofs.Common.{take}
use Rattle.std.specs.List.{list_any}
use Rattle.vx_cells.specs.Maps.{cell_on}
use Rattle.vx_places.specs.Around.{is_kind_around, Adds}
use Rattle.vx_still.proofs.sight.mark_around_all.Given as goal

-- the positions around those so far are added
abbrev pub invariant-loop-center : goal.invariant-loop-center
invariant-loop-center l =
    Adds (λ p. list_any (λ c. is_kind_around l.kind (cell_on l.map) c l.steps p) (take l.center-index l.centers)) l.fn.places l.places
