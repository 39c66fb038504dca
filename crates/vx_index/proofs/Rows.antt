-- The columns of a row of a tile that a shape has.
use Rattle.std.proofs.Common.{◌≡◌, ℕ, pos, ◌+◌, true, None, Some, Option, MatchOption, arith, ap, ◌∙◌, subst}
use Rattle.std.specs.Prelude.{◌≤ℤ◌, ◌<ℤ◌}
use Rattle.std.specs.Int.{int_min, int_max}
use Rattle.std.proofs.lemmas.Int.{ints, clamps}
use Rattle.vx_geom.specs.declared.extent.Extent.{Extent}
use Rattle.vx_geom.specs.declared.pos.Pos.{Pos}
use Rattle.vx_geom.specs.Extent.{is_within}
use Rattle.vx_geom.specs.Outline.{Outline, is_in}
use Rattle.vx_geom.specs.Row.{row_of}
use Rattle.vx_geom.proofs.Enclosing.{within_from}
use Rattle.vx_geom.proofs.Rows.{rows_hold_positions}
use Rattle.vx_index.specs.Patches.{row_of_square, HoldsThere}
use Rattle.vx_index.proofs.Squares.{lies_amid, lies_in_row}

module _ (o : Outline) (west z : ℕ) where
  -- a position of the shape in the row lies in one of the columns that are told of it
  told : (row : Option Extent) → row_of o (pos z) ≡ row → (p : Pos) → is_within (row_of_square west z) p ≡ true
      → is_in o p ≡ true → MatchOption row ⊥ (λ r. (r.west ≤ℤ p.x) × (p.x ≤ℤ r.east))
  told row is p within there =
      let lies = lies_in_row west z p within in
      subst (λ r. MatchOption r ⊥ (λ r. (r.west ≤ℤ p.x) × (p.x ≤ℤ r.east))) (ap (row_of o) lies.z_is ∙ is)
      (rows_hold_positions o p there)

  -- a row in which the shape has none
  pub holds_none : row_of o (pos z) ≡ None → HoldsThere o (row_of_square west z) None
  holds_none none p within there = absurd (told None none p within there)

  -- or none among those of the tile
  pub holds_apart : (row : Extent) → row_of o (pos z) ≡ Some row → int_min row.east (pos (west + 31)) <ℤ int_max row.west (pos west)
      → HoldsThere o (row_of_square west z) None
  holds_apart row is apart p within there =
      let amid = lies_amid (row_of_square west z) p within in
      let ends = told (Some row) is p within there in
      absurd (omega (arith, ints, clamps, apart, amid.west, amid.east, ends.0, ends.1))

  -- and those of the row that are among those of the tile
  pub holds_part : (row part : Extent) → row_of o (pos z) ≡ Some row → part.west ≡ int_max row.west (pos west)
      → part.east ≡ int_min row.east (pos (west + 31)) → part.north ≡ pos z → part.south ≡ pos z
      → HoldsThere o (row_of_square west z) (Some part)
  holds_part row part is in_west in_east in_north in_south p within there =
      let amid = lies_amid (row_of_square west z) p within in
      let ends = told (Some row) is p within there in
      within_from part p
      (omega (arith, ints, clamps, in_west, amid.west, ends.0)) (omega (arith, ints, clamps, in_east, amid.east, ends.1))
      (omega (arith, ints, in_north, amid.north)) (omega (arith, ints, in_south, amid.south))
