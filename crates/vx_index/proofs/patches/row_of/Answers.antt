use Rattle.std.proofs.Common.{◌≡◌, ℕ, ℤ, Option, pos, ◌+◌, ◌-◌, ◌<◌, ◌≤◌, rules, arith, ap, sym, ◌∙◌, SFits, w32}
use Rattle.std.specs.Int.{int_min, int_max}
use Rattle.std.proofs.lemmas.Int.{ints, to_z-of_z}
use mir.Val.{to_z, of_z}
use Rattle.vx_geom.specs.declared.bounds.TheConstants.{MAX_COLUMNS_EACH_WAY}
use Rattle.vx_geom.specs.declared.extent.Extent.{Extent}
use Rattle.vx_geom.specs.Outline.{Outline}
use Rattle.vx_geom.specs.Row.{row_of}
use Rattle.vx_index.proofs.Rows.{holds_none, holds_apart, holds_part}
use Rattle.vx_index.proofs.patches.row_of.Goals as goal

-- a number of columns or of a row, as it is cast
cast_is : (n : ℕ) → n < MAX_COLUMNS_EACH_WAY + 64 → to_z w32 n ≡ pos n
cast_is n few = omega (arith, ints)

-- the columns of a row, as they were read
row_is : (o : Outline) (z : ℕ) (read row : Option Extent) → z < MAX_COLUMNS_EACH_WAY + 32 → read ≡ row_of o (to_z w32 z) → read ≡ row → row_of o (pos z) ≡ row
row_is o z read row few is was = ap (row_of o) (sym (cast_is z (omega arith))) ∙ sym is ∙ was

-- the ends of what a row and a tile have in common, as they are computed
ends_are : (row : Extent) (first last : ℤ) (west : ℕ) → SFits w32 row.west → SFits w32 row.east → SFits w32 first → SFits w32 last → west ≤ MAX_COLUMNS_EACH_WAY
    → first ≡ int_max (to_z w32 (of_z w32 row.west)) (to_z w32 west) → last ≡ int_min (to_z w32 (of_z w32 row.east)) (to_z w32 (west + 32 - 1))
    → (to_z w32 (of_z w32 first) ≡ int_max row.west (pos west)) × (to_z w32 (of_z w32 last) ≡ int_min row.east (pos (west + 31)))
ends_are row first last west west_fits east_fits first_fits last_fits few first_is last_is =
    let same : west + 32 - 1 ≡ west + 31 = omega arith in (
      to_z-of_z w32 first first_fits ∙ first_is
          ∙ ap (λ n. int_max n (to_z w32 west)) (to_z-of_z w32 row.west west_fits) ∙ ap (int_max row.west) (cast_is west (omega arith)),
      to_z-of_z w32 last last_fits ∙ last_is
          ∙ ap (λ n. int_min n (to_z w32 (west + 32 - 1))) (to_z-of_z w32 row.east east_fits)
          ∙ ap (int_min row.east) (cast_is (west + 32 - 1) (omega arith) ∙ ap pos same),
    )

pub returns-in_err-row : goal.returns-in_err-row
returns-in_err-row c =
    rw c.from_residual.ensures
    (holds_none c.args.shape.now c.args.west c.args.z (row_is c.args.shape.now c.args.z _ _ c.requires.row c.row.ensures c.in_err-row.was))

pub returns-then-last-first : goal.returns-then-last-first
returns-then-last-first c =
    let row = c.in_ok-row.row in
    let ends = ends_are row c.max-first.result c.min-last.result c.args.west (search rules) (search rules) (record { sfits = c.max-first.type_inv })
    (record { sfits = c.min-last.type_inv }) c.requires.west c.max-first.ensures.value c.min-last.ensures.value in
    holds_apart c.args.shape.now c.args.west c.args.z row (row_is c.args.shape.now c.args.z _ _ c.requires.row c.row.ensures c.in_ok-row.was)
    (omega (arith, ints, ends.0, ends.1, c.if-last-first.true))

pub returns : goal.returns
returns c =
    let row = c.in_ok-row.row in
    let ends = ends_are row c.max-first.result c.min-last.result c.args.west (search rules) (search rules) (record { sfits = c.max-first.type_inv })
    (record { sfits = c.min-last.type_inv }) c.requires.west c.max-first.ensures.value c.min-last.ensures.value in
    let z_is = cast_is c.args.z (omega (arith, c.requires.row)) in
    holds_part c.args.shape.now c.args.west c.args.z row _ (row_is c.args.shape.now c.args.z _ _ c.requires.row c.row.ensures c.in_ok-row.was)
    ends.0 ends.1 z_is z_is
