use Rattle.std.specs.Prelude.{ℤ, if◌then◌else◌, List, Option, Some, None}
use Rattle.vx_geom.specs.declared.pos.Pos.{Pos}
use Rattle.vx_geom.specs.declared.shape_spec.ShapeSpec.{ShapeSpec}
use Rattle.vx_geom.specs.declared.shape_spec.ShapeSpec.TheVariants as spec
use Rattle.vx_geom.specs.Polygon.{Column}
use Rattle.vx_geom.specs.Outline.{Outline, Cuboid, Polygon, lower, higher, is_polygon}

-- a shape as it is written: two corners in any order, or any list of points with a lowest and a
-- highest y
pub data Written : Type 0 where
  Corners : Pos → Pos → Written
  Path : List Column → ℤ → ℤ → Written

-- what a shape specification says
abbrev pub written : ShapeSpec → Written
written (spec.Cuboid a b) = Corners a b
written (spec.Poly points low high) = Path points.items low high

-- the outline of the shape that is written, if it is one
unfoldable pub outline_asked : Written → Option Outline
outline_asked (Corners a b) = Some (Cuboid (lower a b) (higher a b))
outline_asked (Path points low high) =
    if is_polygon points low high then Some (Polygon points low high) else None
