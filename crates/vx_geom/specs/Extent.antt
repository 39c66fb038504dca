-- The columns that a shape lies in.
use Rattle.std.specs.Prelude.{◌≡◌, ℤ, pos, int_le, Bool, true, ◌&&◌, List, [], ◌∷◌, Option, Some, None}
use Rattle.std.specs.List.{slice_get}
use Rattle.std.specs.Int.{int_min, int_max}
use Rattle.vx_geom.specs.declared.pos.Pos.{Pos}
use Rattle.vx_geom.specs.declared.extent.Extent.{Extent}
use Rattle.vx_geom.specs.Polygon.{Column}
use Rattle.vx_geom.specs.Outline.{Outline, Cuboid, Polygon, is_amid, is_in}

-- the column of the position is one of these
unfoldable pub is_within : Extent → Pos → Bool
is_within e p = is_amid e.west e.east p.x && is_amid e.north e.south p.z

-- two stretches of numbers, each with its ends, have one in common
unfoldable pub overlap : ℤ → ℤ → ℤ → ℤ → Bool
overlap a b c d = int_le a d && int_le c b

-- some column is in both
unfoldable pub meets : Extent → Extent → Bool
meets e f = overlap e.west e.east f.west f.east && overlap e.north e.south f.north f.south

-- where a column is in both, they meet
abbrev pub ExtentsMeet : Type 0
ExtentsMeet = (e f : Extent) (p : Pos) → is_within e p ≡ true → is_within f p ≡ true
    → meets e f ≡ true

-- the columns between those of two corners
unfoldable pub of_corners : Pos → Pos → Extent
of_corners a b = record { west = a.x; east = b.x; north = a.z; south = b.z }

-- that column alone
unfoldable pub one_column : Column → Extent
one_column c = record { west = c.0; east = c.0; north = c.1; south = c.1 }

-- these columns, made as wide as to hold that one too
unfoldable pub widened : Extent → Column → Extent
widened e c = record {
  west = int_min e.west c.0;
  east = int_max e.east c.0;
  north = int_min e.north c.1;
  south = int_max e.south c.1;
}

abbrev pub widened_by : Extent → List Column → Extent
widened_by e [] = e
widened_by e (c ∷ cs) = widened_by (widened e c) cs

-- where there is no point, which no shape has, the column at 0 and 0
abbrev pub columns_from : Option Column → List Column → Extent
columns_from None points = one_column (pos 0, pos 0)
columns_from (Some first) points = widened_by (one_column first) points

-- from the least x and z of the points to the greatest
unfoldable pub of_points : List Column → Extent
of_points points = columns_from (slice_get points 0) points

-- the columns of a shape: those between the corners of a cuboid, and those between the points of a
-- polygon
unfoldable pub extent_of : Outline → Extent
extent_of (Cuboid a b) = of_corners a b
extent_of (Polygon points low high) = of_points points

-- a shape has no position outside its columns
abbrev pub ShapesLieWithin : Type 0
ShapesLieWithin = (o : Outline) (p : Pos) → is_in o p ≡ true → is_within (extent_of o) p ≡ true
