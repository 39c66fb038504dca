-- The columns of a tile.
use Rattle.std.specs.Prelude.{◌≡◌, ◌≤◌, unsigned_abs}
use Rattle.vx_geom.specs.declared.bounds.TheConstants.{MAX_COLUMNS_EACH_WAY}
use Rattle.vx_geom.specs.declared.extent.Extent.{Extent}
use Rattle.vx_index.specs.Patches.{square}

-- these columns are those of a tile that begins no further off than the widest world ends
pub record IsSquare (e : Extent) : Type 0 where
  pub west : unsigned_abs e.west ≤ MAX_COLUMNS_EACH_WAY
  pub north : unsigned_abs e.north ≤ MAX_COLUMNS_EACH_WAY
  pub is : e ≡ square (unsigned_abs e.west) (unsigned_abs e.north)
