-- The shapes of regions by their numbers, and what an edit leaves of them.
use Rattle.std.specs.Prelude.{ℕ, if◌then◌else◌, nat_eq, Option, Some, None, option_map}
use Rattle.vx_geom.specs.Outline.{Outline}
use Rattle.vx_region.specs.Regions.{Regions, region_at}

-- the shape of each number that has one
abbrev pub Shapes : Type 0
Shapes = ℕ → Option Outline

-- the shape of the region of a number
abbrev pub shape_at : Regions → Shapes
shape_at rs n = option_map (λ r. r.shape) (region_at rs n)

-- these shapes, but for that number this one or none
abbrev pub renewed_at : Shapes → ℕ → Option Outline → Shapes
renewed_at shapes n o = λ m. if nat_eq m n then o else shapes m

-- these shapes with this one for that number
abbrev pub with_at : Shapes → ℕ → Outline → Shapes
with_at shapes n shape = renewed_at shapes n (Some shape)

-- these shapes without that of the number
abbrev pub without_at : Shapes → ℕ → Shapes
without_at shapes n = renewed_at shapes n None
