use Rattle.std.specs.Prelude.{ℤ, pos, ◌-◌, ◌%◌, ◌-ℤ◌, ◌*ℤ◌, Bool, ◌&&◌, ◌||◌, ◌==◌, int_le, int_lt, List, [], ◌∷◌, length, Option, None, Some, count_by}
use Rattle.std.specs.List.{list_any, slice_get}
use Rattle.std.specs.Ordering.{int_eq}
use Rattle.std.specs.Int.{int_min, int_max}
use Rattle.vx_geom.specs.declared.pos.Pos.{Pos}

-- a column of the world, by its x and its z
abbrev pub Column : Type 0
Column = ℤ × ℤ

-- two points that follow one another
abbrev pub Edge : Type 0
Edge = Column × Column

-- the edges from a to the first of the points, and from each point to the next
abbrev pub edges_after : Column → List Column → List Edge
edges_after a [] = []
edges_after a (b ∷ bs) = (a, b) ∷ edges_after b bs

abbrev pub edges_from : Option Column → List Column → List Edge
edges_from None points = []
edges_from (Some last) points = edges_after last points

-- the edges of a polygon: from its last point to its first, and from each point to the next
abbrev pub edges : List Column → List Edge
edges points = edges_from (slice_get points (length points - 1)) points

-- the cross product of the ways from a to b and from a to the position: 0 where all three are in
-- line, and positive where the position lies west of the line, if b is the further south
unfoldable pub cross : Column → Column → Pos → ℤ
cross a b p = (b.0 -ℤ a.0) *ℤ (p.z -ℤ a.1) -ℤ (b.1 -ℤ a.1) *ℤ (p.x -ℤ a.0)

-- c is one of two numbers or between them
unfoldable pub is_between : ℤ → ℤ → ℤ → Bool
is_between a b c = int_le (int_min a b) c && int_le c (int_max a b)

-- the position's column is in the box of which the two columns are corners
unfoldable pub in_box : Column → Column → Pos → Bool
in_box a b p = is_between a.0 b.0 p.x && is_between a.1 b.1 p.z

-- the position's column is on the edge or one of its ends
unfoldable pub on_edge : Pos → Edge → Bool
on_edge p e = in_box e.0 e.1 p && int_eq (cross e.0 e.1 p) (pos 0)

-- a is not south of the position and b is
unfoldable pub spans : Column → Column → Pos → Bool
spans a b p = int_le a.1 p.z && int_lt p.z b.1

-- the way from a to b leads past the position from north to south, east of it
unfoldable pub passes_east : Column → Column → Pos → Bool
passes_east a b p = spans a b p && int_lt (pos 0) (cross a b p)

-- the edge has one end south of the position and the other not, and meets the ray from the position
-- to the east
unfoldable pub meets_ray : Pos → Edge → Bool
meets_ray p e = passes_east e.0 e.1 p || passes_east e.1 e.0 p

-- an odd number of edges meet the ray to the east
unfoldable pub is_enclosed : Pos → List Edge → Bool
is_enclosed p es = count_by (meets_ray p) es % 2 == 1

-- the position's column is on an edge of the polygon, or inside by the even-odd rule
unfoldable pub in_polygon : List Column → Pos → Bool
in_polygon points p = list_any (on_edge p) (edges points) || is_enclosed p (edges points)
