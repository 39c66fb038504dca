use Rattle.std.specs.Prelude.{◌≡◌, ℕ}
use Rattle.vx_geom.specs.Sizes.{Sizes}
use Rattle.vx_sector.specs.SectorData.{SectorData}

-- it is the sector of that number in a world of these sizes
pub record IsSectorOf (sizes : Sizes) (number : ℕ) (s : SectorData) : Type 0 where
  pub sector : s.cells.sector ≡ number
  pub bounds : s.cells.bounds ≡ sizes
