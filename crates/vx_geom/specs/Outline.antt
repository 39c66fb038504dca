use Rattle.std.specs.Prelude.{ℕ, ℤ, Bool, true, false, ◌&&◌, int_le, nat_le, List, length}
use Rattle.std.specs.Int.{int_min, int_max}
use Rattle.vx_geom.specs.declared.pos.Pos.{Pos}
use Rattle.vx_geom.specs.Polygon.{Column, in_polygon}

-- what a shape is: the least and the greatest corner of a cuboid, or the points of a polygon with
-- its lowest and its highest y
pub data Outline : Type 0 where
  Cuboid : Pos → Pos → Outline
  Polygon : List Column → ℤ → ℤ → Outline

-- a ≤ c ≤ b
abbrev pub is_amid : ℤ → ℤ → ℤ → Bool
is_amid a b c = int_le a c && int_le c b

-- the column of the position lies between those of the corners
unfoldable pub in_columns : Pos → Pos → Pos → Bool
in_columns a b p = is_amid a.x b.x p.x && is_amid a.z b.z p.z

-- each coordinate lies between those of the corners
unfoldable pub in_cuboid : Pos → Pos → Pos → Bool
in_cuboid a b p = in_columns a b p && is_amid a.y b.y p.y

-- the position is in the shape
unfoldable pub is_in : Outline → Pos → Bool
is_in (Cuboid a b) p = in_cuboid a b p
is_in (Polygon points low high) p = is_amid low high p.y && in_polygon points p

-- the shape is a cuboid
abbrev pub is_cuboid : Outline → Bool
is_cuboid (Cuboid a b) = true
is_cuboid (Polygon points low high) = false

-- how many points a polygon has
abbrev pub fewest_points : ℕ
fewest_points = 3

abbrev pub most_points : ℕ
most_points = 64

abbrev pub is_point_count : ℕ → Bool
is_point_count n = nat_le fewest_points n && nat_le n most_points

-- these points, lowest and highest y make a polygon
unfoldable pub is_polygon : List Column → ℤ → ℤ → Bool
is_polygon points low high = is_point_count (length points) && int_le low high

-- the corner with the lesser of each two coordinates
unfoldable pub lower : Pos → Pos → Pos
lower a b = record { y = int_min a.y b.y; z = int_min a.z b.z; x = int_min a.x b.x }

-- the corner with the greater of each two coordinates
unfoldable pub higher : Pos → Pos → Pos
higher a b = record { y = int_max a.y b.y; z = int_max a.z b.z; x = int_max a.x b.x }
