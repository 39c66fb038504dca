use Rattle.vx_geom.specs.declared.shape.ShapeKind.{ShapeKind}
use Rattle.vx_geom.specs.declared.shape.ShapeKind.TheVariants as kind
use Rattle.vx_geom.specs.Outline.{Outline, Cuboid, Polygon}

-- the outline that a shape holds
abbrev pub outline : ShapeKind → Outline
outline (kind.Cuboid low high) = Cuboid low high
outline (kind.Polygon points low high) = Polygon points.items low high
