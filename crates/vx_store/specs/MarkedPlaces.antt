-- The positions of a sector whose indices are marked.
use Rattle.std.specs.Prelude.{ℕ, List}
use Rattle.std.specs.List.{filter}
use Rattle.vx_geom.specs.declared.pos.Pos.{Pos}
use Rattle.vx_geom.specs.Places.{positions}
use Rattle.vx_geom.specs.Sizes.{Sizes, index_in_sector}
use Rattle.vx_marks.specs.Marks.{is_marked}

-- the positions of a sector whose indices are marked
abbrev pub marked_places : Sizes → ℕ → List ℕ → List Pos
marked_places v sector words =
    filter (λ p. is_marked words (index_in_sector v p)) (positions v sector)
