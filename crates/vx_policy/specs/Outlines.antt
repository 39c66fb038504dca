-- What edits leave of the shapes of the regions.
use Rattle.std.specs.Prelude.{ℕ, ◌≡◌, ◌≢◌, Option, Some, None}
use Rattle.vx_geom.specs.Outline.{Outline}
use Rattle.vx_geom.specs.Written.{outline_asked}
use Rattle.vx_index.specs.Shapes.{shape_at}
use Rattle.vx_policy.specs.Asked.{Asked, Define, Reshape}
use Rattle.vx_region.specs.Regions.{Regions}

-- each number but this one, if there is one, has the shape that it had
abbrev pub ShapesStayBut : Option ℕ → Regions → Regions → Type 0
ShapesStayBut at rs after = (n : ℕ) → at ≢ Some n → shape_at after n ≡ shape_at rs n

-- the shape that an edit gives a region, if it gives one
abbrev pub shape_given : Asked → Option Outline
shape_given (Define id shape) = outline_asked shape
shape_given (Reshape id shape) = outline_asked shape
shape_given e = None
