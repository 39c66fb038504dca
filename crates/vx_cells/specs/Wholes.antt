-- A whole map: as it is made, and with a cell put down.
use Rattle.std.specs.Prelude.{ℕ, zero, suc, if◌then◌else◌, List, [], ◌∷◌, ◌++◌, slice_get, slice_set, Option, Some, None}
use Rattle.std.specs.Option.{option_and_then, unwrap_or}
use Rattle.vx_block.specs.declared.cell.Cell.{Cell}
use Rattle.vx_geom.specs.declared.pos.Pos.{Pos}
use Rattle.vx_geom.specs.Sizes.{Sizes, sector_count, sector_of}
use Rattle.vx_cells.specs.Maps.{MapData, AreSectors}
use Rattle.vx_cells.specs.SectorCells.{SectorCells, only_air, holds, with_cell}

-- so many sectors of a world of this size, from the first on, with nothing but air
abbrev pub airs : Sizes → ℕ → List SectorCells
airs sizes zero = []
airs sizes (suc n) = airs sizes n ++ only_air sizes n ∷ []

-- a world of this size with nothing but air
abbrev pub bare : Sizes → MapData
bare sizes = record { sizes = sizes; sectors = airs sizes (sector_count sizes) }

-- a cell put down at a position of the sector of number k; none where no such sector holds it
abbrev pub set_in : MapData → Pos → Cell → ℕ → Option SectorCells → Option MapData
set_in m p cell k None = None
set_in m p cell k (Some cells) =
    if holds cells p
    then Some (record m { sectors = slice_set m.sectors k (with_cell cells p cell) })
    else None

-- the map with a cell at a position, in place of what was there; none outside the world
unfoldable pub with_cell_on : MapData → Pos → Cell → Option MapData
with_cell_on m p cell =
    option_and_then (λ k. set_in m p cell k (slice_get m.sectors k)) (sector_of m.sizes p)

-- the map with these cells put down one after another; those outside the world are left out
abbrev pub with_cells_on : MapData → List (Pos × Cell) → MapData
with_cells_on m [] = m
with_cells_on m (put ∷ puts) = with_cells_on (unwrap_or (with_cell_on m put.0 put.1) m) puts

-- a map has each sector of its size in its place
abbrev pub IsMap : MapData → Type 0
IsMap m = AreSectors m.sizes m.sectors
