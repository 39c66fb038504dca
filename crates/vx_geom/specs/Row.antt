-- The columns of one row, from the first to the last, among which are those of a shape.
use Rattle.std.specs.Prelude.{◌≡◌, ℤ, pos, ◌+ℤ◌, ◌-ℤ◌, ◌*ℤ◌, ◌≤ℤ◌, Bool, true, if◌then◌else◌, int_lt, int_div, List, [], ◌∷◌, Option, Some, None, MatchOption}
use Rattle.std.specs.Int.{int_min, int_max}
use Rattle.vx_geom.specs.declared.pos.Pos.{Pos}
use Rattle.vx_geom.specs.declared.extent.Extent.{Extent}
use Rattle.vx_geom.specs.Polygon.{Column, Edge, is_between, edges}
use Rattle.vx_geom.specs.Extent.{extent_of}
use Rattle.vx_geom.specs.Outline.{Outline, Cuboid, Polygon, is_amid, is_in}

-- the columns of the row z from the first x to the last
abbrev pub columns_of : ℤ → ℤ → ℤ → Extent
columns_of z first last = record { west = first; east = last; north = z; south = z }

-- how far east of the end a, in whole columns, the way to b meets the row z
unfoldable pub shift : Column → Column → ℤ → ℤ
shift a b z = int_div ((b.0 -ℤ a.0) *ℤ (z -ℤ a.1)) (b.1 -ℤ a.1)

-- the number lies from 0 to the gap: what bounds these two from below or from above bounds it too
pub record LiesWithin (gap n : ℤ) : Type 0 where
  pub low : (low : ℤ) → low ≤ℤ pos 0 → low ≤ℤ gap → low ≤ℤ n
  pub high : (high : ℤ) → pos 0 ≤ℤ high → gap ≤ℤ high → n ≤ℤ high

-- the one column where the way from a to b meets the row
unfoldable pub crossing : Column → Column → ℤ → Extent
crossing a b z = columns_of z (a.0 +ℤ shift a b z) (a.0 +ℤ shift a b z)

-- all columns of a way along the row
unfoldable pub along : Column → Column → ℤ → Extent
along a b z = columns_of z (int_min a.0 b.0) (int_max a.0 b.0)

-- the columns of the row that an edge meets, which is told from its northern end
unfoldable pub stretch : ℤ → Edge → Extent
stretch z e =
    if int_lt e.0.1 e.1.1 then crossing e.0 e.1 z
    else if int_lt e.1.1 e.0.1 then crossing e.1 e.0 z
    else along e.0 e.1 z

-- the edge meets the row
unfoldable pub reaches : ℤ → Edge → Bool
reaches z e = is_between e.0.1 e.1.1 z

-- from the westernmost column of both to the easternmost
unfoldable pub joined : Extent → Extent → Extent
joined row more = record row {
  west = int_min row.west more.west;
  east = int_max row.east more.east;
}

abbrev pub joined_to : Option Extent → Extent → Extent
joined_to None more = more
joined_to (Some row) more = joined row more

-- the columns of a row with those of one edge more
unfoldable pub with_edge : ℤ → Option Extent → Edge → Option Extent
with_edge z row e = if reaches z e then Some (joined_to row (stretch z e)) else row

abbrev pub with_edges : ℤ → Option Extent → List Edge → Option Extent
with_edges z row [] = row
with_edges z row (e ∷ es) = with_edges z (with_edge z row e) es

-- the columns of a row between two corners
unfoldable pub row_between : Pos → Pos → ℤ → Option Extent
row_between a b z = if is_amid a.z b.z z then Some (columns_of z a.x b.x) else None

-- the columns of the row z from the first to the last that a side of the shape meets, as it is cut to
-- whole columns. Only costs rest on how few they are
unfoldable pub row_of : Outline → ℤ → Option Extent
row_of (Cuboid a b) z = row_between a b z
row_of (Polygon points low high) z = with_edges z None (edges points)

-- they hold the column of each position of the shape in that row
abbrev pub RowsHoldPositions : Type 0
RowsHoldPositions = (o : Outline) (p : Pos) → is_in o p ≡ true
    → MatchOption (row_of o p.z) ⊥ (λ row. (row.west ≤ℤ p.x) × (p.x ≤ℤ row.east))

-- and none west or east of all columns of the shape
abbrev pub RowsLieWithin : Type 0
RowsLieWithin = (o : Outline) (z : ℤ) (row : Extent) → row_of o z ≡ Some row
    → ((extent_of o).west ≤ℤ row.west) × (row.east ≤ℤ (extent_of o).east)
