-- The map of a world: its sectors in order, and what stands at each position.
use Rattle.std.specs.Prelude.{◌≡◌, ℕ, suc, Bool, ◌&&◌, List, [], ◌∷◌, length, slice_get, Option, Some, None}
use Rattle.vx_block.specs.declared.cell.Cell.{Cell}
use Rattle.vx_block.specs.declared.cell.Cell.TheVariants.{Air}
use Rattle.vx_geom.specs.declared.bounds.TheConstants.{MAX_COLUMNS_EACH_WAY}
use Rattle.vx_geom.specs.declared.pos.Pos.{Pos}
use Rattle.vx_geom.specs.Sizes.{Sizes, AreSizes, is_below, sector_count, sector_of}
use Rattle.vx_cells.specs.SectorCells.{SectorCells, cell_at}

-- the size of a world, and its sectors in order of their numbers
pub record MapData : Type 0 where
  pub sizes : Sizes
  pub sectors : List SectorCells

-- these are the sectors of a world of this size, in order, from number k on
abbrev pub AreFrom : Sizes → ℕ → List SectorCells → Type 0
AreFrom sizes k [] = Unit {0}
AreFrom sizes k (c ∷ cs) = (c.bounds ≡ sizes) × (c.sector ≡ k) × AreFrom sizes (suc k) cs

-- these are all the sectors of a world of this size, in order
pub record AreSectors (sizes : Sizes) (cs : List SectorCells) : Type 0 where
  pub valid : AreSizes sizes
  pub all : length cs ≡ sector_count sizes
  pub each : AreFrom sizes 0 cs

-- the cell at a position of a sector; without a sector it is air
abbrev pub cell_in : Option SectorCells → Pos → Cell
cell_in None p = Air
cell_in (Some c) p = cell_at c p

-- the sector of a number; outside the world there is none
abbrev pub sector_at : List SectorCells → Option ℕ → Option SectorCells
sector_at cs None = None
sector_at cs (Some k) = slice_get cs k

-- the cell at a position of a map; outside the world it is air
unfoldable pub cell_on : MapData → Pos → Cell
cell_on m p = cell_in (sector_at m.sectors (sector_of m.sizes p)) p

-- no world is wider or higher
abbrev pub far : ℕ
far = MAX_COLUMNS_EACH_WAY

-- the coordinates are such as a position of some world may have
abbrev pub is_near : Pos → Bool
is_near p = is_below p.x far && (is_below p.y far && is_below p.z far)
