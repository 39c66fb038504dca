-- A shape that is cut along rows.
use Rattle.std.specs.Prelude.{◌≡◌, ℤ, Option}
use Rattle.vx_geom.specs.declared.extent.Extent.{Extent}
use Rattle.vx_geom.specs.Outline.{Outline}
use Rattle.vx_geom.specs.Row.{row_of}

-- these are the columns of the shape in that row
abbrev pub IsRowOf : Outline → ℤ × Option Extent → Type 0
IsRowOf shape row = row.1 ≡ row_of shape row.0
