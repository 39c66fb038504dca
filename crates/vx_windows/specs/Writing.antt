-- What the commands of the windows leave as it was.
use Rattle.std.specs.Prelude.{◌≡◌, true, List, [], ◌∷◌, map}
use Rattle.vx_geom.specs.declared.pos.Pos.{Pos}
use Rattle.vx_geom.specs.Sizes.{Sizes}
use Rattle.vx_cells.specs.Maps.{MapData}
use Rattle.vx_cells.specs.SectorCells.{SectorCells, cell_at, holds}
use Rattle.vx_sector.specs.Commands.{place_of}
use Rattle.vx_sector.specs.SectorData.{SectorData, EntryData}
use Rattle.vx_windows.specs.Sectors.{base_of}

-- the commands of its window left the cell at p as it was, if the sector has p
abbrev pub IsSpared : Pos → SectorData → Type 0
IsSpared p s = holds s.cells p ≡ true → cell_at s.cells p ≡ cell_at s.base p

-- at p, where it is the place of some of these entries, the cells are as the base is
abbrev pub AreSpared : Pos → SectorCells → SectorCells → List EntryData → Type 0
AreSpared p base cells [] = Unit {0}
AreSpared p base cells (entry ∷ entries) =
    (place_of entry.cmd ≡ p → cell_at cells p ≡ cell_at base p) × AreSpared p base cells entries

-- the map as the windows of these sectors began
abbrev pub map_before : Sizes → List SectorData → MapData
map_before sizes sectors = record { sizes = sizes; sectors = map base_of sectors }
