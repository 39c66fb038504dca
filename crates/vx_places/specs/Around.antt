-- The positions within so many steps of one, by layers, rows and columns.
use Rattle.std.specs.Prelude.{◌≡◌, ℕ, ◌+◌, ◌-◌, ◌%◌, min, Bool, ◌&&◌, ◌||◌, nat_eq, nat_lt, nat_le, if◌then◌else◌, ℤ, pos, int_lt, unsigned_abs}
use Rattle.vx_geom.specs.declared.pos.Pos.{Pos}
use Rattle.vx_geom.specs.Sizes.{Sizes, span, is_inside}
use Rattle.vx_block.specs.declared.cell.Cell.{Cell}
use Rattle.vx_store.specs.MachineMarks.{is_of}
use Rattle.vx_store.specs.declared.mark_kind.MarkKind.{MarkKind}
use Rattle.vx_places.specs.Places.{PlacesData, is_at, steps_between}

-- at most so many steps lead from one position to the other
abbrev pub is_around : Pos → ℕ → Pos → Bool
is_around p steps q = nat_le (steps_between p q) steps

-- and something of a kind stands there
abbrev pub is_kind_around : MarkKind → (Pos → Cell) → Pos → ℕ → Pos → Bool
is_kind_around kind w p steps q = is_around p steps q && is_of kind (w q)

-- and it passes a test
abbrev pub is_such_around : (Pos → Bool) → Pos → ℕ → Pos → Bool
is_such_around test p steps q = is_around p steps q && test q

-- the numbers of a position's layer, row and column
abbrev pub layer_of : Pos → ℕ
layer_of p = unsigned_abs p.y

abbrev pub row_of : Pos → ℕ
row_of p = unsigned_abs p.z

abbrev pub column_of : Pos → ℕ
column_of p = unsigned_abs p.x

-- it passes a test, and its number is this one
abbrev pub at_number : (Pos → ℕ) → (Pos → Bool) → ℕ → Pos → Bool
at_number number test n p = test p && nat_eq (number p) n

-- it passes a test, and its number is below this one
abbrev pub below_number : (Pos → ℕ) → (Pos → Bool) → ℕ → Pos → Bool
below_number number test n p = test p && nat_lt (number p) n

-- it passes a test, and its number lies from one up to below another
abbrev pub between_numbers : (Pos → ℕ) → (Pos → Bool) → ℕ → ℕ → Pos → Bool
between_numbers number test m n p = test p && (nat_le m (number p) && nat_lt (number p) n)

-- it passes a test, and lies in one of so many columns of a row of a layer, from one on
abbrev pub is_in_run : (Pos → Bool) → ℕ → ℕ → ℕ → ℕ → Pos → Bool
is_in_run test x y z length =
    between_numbers column_of (at_number row_of (at_number layer_of test y) z) x (x + length)

-- of the numbers below `count` those within so many steps of a coordinate lie from this one
unfoldable pub least_within : ℤ → ℕ → ℕ → ℕ
least_within c steps count =
    if int_lt c (pos 0) then 0 else min (unsigned_abs c - steps) count

-- up to below this one
unfoldable pub end_within : ℤ → ℕ → ℕ → ℕ
end_within c steps count =
    if int_lt c (pos 0)
    then min (steps + 1 - unsigned_abs c) count
    else min (unsigned_abs c + steps + 1) count

-- so many columns from one on lie in one sector of a world of either size
unfoldable pub shared_columns : Sizes → Sizes → ℕ → ℕ
shared_columns v w x =
    if nat_lt 16 (span v) && nat_lt 16 (span w) then 32 - x % 32 else 16 - x % 16

-- the positions of the world that pass a test were added
pub record Adds (test : Pos → Bool) (old new : PlacesData) : Type 0 where
  pub sizes : new.sizes ≡ old.sizes
  pub marked : (p : Pos) → is_at new p ≡ (is_at old p || (is_inside old.sizes p && test p))
