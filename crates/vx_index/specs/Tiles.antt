-- What a tile tells of the regions and of who stands in it, and what a cache keeps.
use Rattle.std.specs.Prelude.{◌≡◌, true}
use Rattle.vx_geom.specs.declared.extent.Extent.{Extent}
use Rattle.vx_geom.specs.declared.pos.Pos.{Pos}
use Rattle.vx_geom.specs.Extent.{is_within}
use Rattle.vx_region.specs.Regions.{Regions}
use Rattle.vx_region.specs.Subjects.{Actor, Machine}
use Rattle.vx_index.specs.declared.cache.Cache.{Cache}
use Rattle.vx_index.specs.declared.tile.Tile.{Tile}
use Rattle.vx_index.specs.Patches.{AreOf, AreNumbersOf}
use Rattle.vx_index.specs.Shapes.{Shapes, shape_at}
use Rattle.vx_index.specs.Verdicts.{AreVerdicts}

-- the tile tells of all these shapes where they lie in its columns, and of no others
pub record TellsOf (shapes : Shapes) (tile : Tile) : Type 0 where
  pub patches : AreOf shapes tile.columns tile.patches.items
  pub numbers : AreNumbersOf (λ d. true) tile.patches.items tile.numbers.items

-- the tile tells of all the regions where they lie in its columns, and of no others
abbrev pub IsTile : Regions → Tile → Type 0
IsTile rs = TellsOf (shape_at rs)

-- where the actor is a machine, it stands in these columns
abbrev pub StandsIn : Extent → Actor → Type 0
StandsIn columns actor = (q : Pos) → actor ≡ Machine q → is_within columns q ≡ true

-- the verdicts that a cache keeps are those by these regions
pub record IsCacheOf (rs : Regions) (cache : Cache) : Type 0 where
  pub verdicts : AreVerdicts rs cache.kept
