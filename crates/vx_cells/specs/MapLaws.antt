-- What a cell put down on a map is to what stands there.
use Rattle.std.specs.Prelude.{◌≡◌, ◌≢◌, Option, Some, None, is_some}
use Rattle.std.specs.List.{All}
use Rattle.vx_block.specs.declared.cell.Cell.{Cell}
use Rattle.vx_block.specs.declared.cell.Cell.TheVariants.{Air}
use Rattle.vx_geom.specs.declared.pos.Pos.{Pos}
use Rattle.vx_geom.specs.Sizes.{is_inside, sector_of}
use Rattle.vx_cells.specs.Maps.{MapData, sector_at, cell_on}
use Rattle.vx_cells.specs.SectorCells.{SectorCells, Block, IsWhole, placed, block_at}
use Rattle.vx_cells.specs.Wholes.{with_cell_on, IsMap}

-- what stands at a position of a sector; without a sector it is air
abbrev pub block_in : Option SectorCells → Pos → Block
block_in None p = placed Air
block_in (Some c) p = block_at c p

-- what stands at a position of a map, cell and slots; outside the world it is air
unfoldable pub block_on : MapData → Pos → Block
block_on m p = block_in (sector_at m.sectors (sector_of m.sizes p)) p

-- each sector of a map stands in its place, and something at each place of it
pub record IsFilled (m : MapData) : Type 0 where
  pub map : IsMap m
  pub each : All IsWhole m.sectors

-- the cell of the map is that of what stands there
abbrev pub CellOfBlock : Type 0
CellOfBlock = (m : MapData) (p : Pos) → (block_on m p).cell ≡ cell_on m p

-- a cell is put down inside the world, and nowhere else
abbrev pub PutInside : Type 0
PutInside = (m : MapData) (p : Pos) (cell : Cell)
    → IsFilled m → is_some (with_cell_on m p cell) ≡ is_inside m.sizes p

-- the world stays as large, with something at each place
abbrev pub PutStaysFilled : Type 0
PutStaysFilled = (m next : MapData) (p : Pos) (cell : Cell)
    → IsFilled m → with_cell_on m p cell ≡ Some next → IsFilled next × (next.sizes ≡ m.sizes)

-- a cell that was put down stands there, a chest empty
abbrev pub PutCellIsRead : Type 0
PutCellIsRead = (m next : MapData) (p : Pos) (cell : Cell)
    → IsFilled m → with_cell_on m p cell ≡ Some next → block_on next p ≡ placed cell

-- and what stands anywhere else stays, cell and slots
abbrev pub OthersStay : Type 0
OthersStay = (m next : MapData) (p q : Pos) (cell : Cell)
    → IsFilled m → with_cell_on m p cell ≡ Some next → q ≢ p → block_on next q ≡ block_on m q
