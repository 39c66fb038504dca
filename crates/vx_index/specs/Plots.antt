-- Where the tiles of a row lie.
use Rattle.std.specs.Prelude.{◌≡◌}
use Rattle.vx_geom.specs.declared.extent.Extent.{Extent}
use Rattle.vx_index.specs.declared.tile.Tile.{Tile}

-- the tile lies as far from the north as these columns
pub record LiesAlong (columns : Extent) (tile : Tile) : Type 0 where
  pub north : tile.columns.north ≡ columns.north
  pub south : tile.columns.south ≡ columns.south
