-- The sectors of a world, from one window to the next.
use Rattle.std.specs.Prelude.{◌≡◌, ℕ, List, [], ◌∷◌, Vec, map, Option, Some, None}
use Rattle.std.specs.Bool.{⊤}
use Rattle.std.specs.List.{All}
use Rattle.std.specs.Option.{unwrap_or}
use Rattle.std.specs.declared.alloc.Global.{Global}
use Rattle.vx_block.specs.declared.cell.Cell.{Cell}
use Rattle.vx_geom.specs.declared.pos.Pos.{Pos}
use Rattle.vx_geom.specs.Sizes.{Sizes, sector_of}
use Rattle.vx_cells.specs.Maps.{MapData}
use Rattle.vx_cells.specs.SectorCells.{SectorCells}
use Rattle.vx_region.specs.Regions.{Regions}
use Rattle.vx_policy.specs.declared.version.Version.{Version}
use Rattle.vx_sector.specs.SectorData.{SectorData, EntryData, FreshData, entry_of}
use Rattle.vx_sector.specs.Windows.{first_window, renewed}
use Rattle.vx_sector.specs.declared.entry.Entry.{Entry}

-- the cells of a sector at play
abbrev pub cells_of : SectorData → SectorCells
cells_of s = s.cells

-- the cells of a sector as its window began
abbrev pub base_of : SectorData → SectorCells
base_of s = s.base

-- what a window over these cells begins with, judged by this version
abbrev pub window_over : Version → SectorCells → FreshData
window_over version cells = record { cells = cells; version = version }

-- a sector with these cells in its first window, judged by this version
abbrev pub opened_by : Version → SectorCells → SectorData
opened_by version cells = first_window (window_over version cells)

-- the policy of the opening as a version
abbrev pub first_version : Regions → Version
first_version rs = record { tick = 1; edits = 0; policy = rs }

-- a sector with these cells in its first window, judged by the policy of the opening
abbrev pub opened_with : Regions → SectorCells → SectorData
opened_with rs = opened_by (first_version rs)

-- a sector as it begins its next window over these cells, judged by this version
abbrev pub renewed_over : Version → SectorData → SectorCells → SectorData
renewed_over version s cells = renewed s (window_over version cells)

-- the sectors as each begins its next window, over its own cells where there are no others
abbrev pub all_renewed : Version → List SectorData → List SectorCells → List SectorData
all_renewed version [] cells = []
all_renewed version (s ∷ sectors) [] =
    renewed_over version s s.cells ∷ all_renewed version sectors []
all_renewed version (s ∷ sectors) (c ∷ cells) =
    renewed_over version s c ∷ all_renewed version sectors cells

-- what a window begins with is of the sector: the cells are of the world's size and of its number
abbrev pub IsOf : SectorData → FreshData → Type 0
IsOf s fresh = (fresh.cells.bounds ≡ s.cells.bounds) × (fresh.cells.sector ≡ s.cells.sector)

-- each sector has what its next window begins with, and none is left
abbrev pub AreOf : List SectorData → List FreshData → Type 0
AreOf [] [] = ⊤
AreOf (s ∷ sectors) (fresh ∷ all) =
    IsOf s fresh × AreOf sectors all
AreOf sectors all = ⊥

-- cells in their order, of which some have others in their place
abbrev pub with_changes : List SectorCells → List (Option SectorCells) → List SectorCells
with_changes [] changes = []
with_changes (c ∷ cells) [] = c ∷ cells
with_changes (c ∷ cells) (change ∷ changes) = unwrap_or change c ∷ with_changes cells changes

-- the map of a world of this size with these cells, of which some have others in their place
abbrev pub map_with_changes : Sizes → List SectorCells → List (Option SectorCells) → MapData
map_with_changes sizes cells changes =
    record { sizes = sizes; sectors = with_changes cells changes }

-- the map of a world of this size with the cells of these sectors, but for those that changed
abbrev pub map_changed : Sizes → List SectorData → List (Option SectorCells) → MapData
map_changed sizes sectors changes = map_with_changes sizes (map cells_of sectors) changes

-- these cells all lie in one sector of a world of this size, or all outside it
abbrev pub AreTogether : Sizes → List (Pos × Cell) → Type 0
AreTogether sizes puts =
    All (λ put. All (λ other. sector_of sizes put.0 ≡ sector_of sizes other.0) puts) puts

-- there is something or nothing for each sector, and nothing only where nothing was recorded in the
-- window
abbrev pub AreQuiet : {X : Type 0} → List SectorData → List (Option X) → Type 0
AreQuiet [] [] = ⊤
AreQuiet (s ∷ sectors) (None ∷ given) = (s.entries ≡ []) × AreQuiet sectors given
AreQuiet (s ∷ sectors) (Some x ∷ given) = AreQuiet sectors given
AreQuiet sectors given = ⊥

-- what a sector begins its next window with: this, or else its cells as they are, and the policy
-- of its version under another number
abbrev pub next_of : ℕ → SectorData → Option FreshData → FreshData
next_of tick s None = window_over (record s.version { tick = tick }) s.cells
next_of tick s (Some fresh) = fresh

-- so for each sector
abbrev pub nexts : ℕ → List SectorData → List (Option FreshData) → List FreshData
nexts tick (s ∷ sectors) (next ∷ given) = next_of tick s next ∷ nexts tick sectors given
nexts tick sectors given = []

-- the sectors, of which the first begin their next windows so, and the others are as they were
abbrev pub renewed_each : List SectorData → List FreshData → List SectorData
renewed_each [] all = []
renewed_each (s ∷ sectors) [] = s ∷ sectors
renewed_each (s ∷ sectors) (fresh ∷ all) = renewed s fresh ∷ renewed_each sectors all

-- the record of a sector's window
abbrev pub entries_of : SectorData → List EntryData
entries_of s = s.entries

-- what the entries of such a record say, as it is handed out
abbrev pub entries_in : Vec Entry Global → List EntryData
entries_in window = map entry_of window.items
