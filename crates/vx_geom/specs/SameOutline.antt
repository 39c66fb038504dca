use Rattle.std.specs.Prelude.{ℤ, Bool, false, ◌&&◌, List}
use Rattle.std.specs.Ordering.{int_eq}
use Rattle.std.specs.Cmp.Lexicographic.{pointwise}
use Rattle.vx_geom.specs.declared.pos.Pos.{Pos}
use Rattle.vx_geom.specs.Polygon.{Column}
use Rattle.vx_geom.specs.Outline.{Outline, Cuboid, Polygon}

-- the two positions have the same coordinates
unfoldable pub same_corner : Pos → Pos → Bool
same_corner a b = int_eq a.y b.y && int_eq a.z b.z && int_eq a.x b.x

unfoldable pub same_corners : Pos → Pos → Pos → Pos → Bool
same_corners a b c d = same_corner a c && same_corner b d

unfoldable pub same_column : Column → Column → Bool
same_column a b = int_eq a.0 b.0 && int_eq a.1 b.1

-- the same points in the same order
unfoldable pub same_points : List Column → List Column → Bool
same_points ps qs = pointwise same_column ps qs

unfoldable pub same_ends : ℤ → ℤ → ℤ → ℤ → Bool
same_ends a b c d = int_eq a c && int_eq b d

-- the two outlines are of one kind and have the same parts
unfoldable pub same_outline : Outline → Outline → Bool
same_outline (Cuboid a b) (Cuboid c d) = same_corners a b c d
same_outline (Polygon ps a b) (Polygon qs c d) = same_points ps qs && same_ends a b c d
same_outline (Cuboid a b) (Polygon qs c d) = false
same_outline (Polygon ps a b) (Cuboid c d) = false
