-- The chronicle of a world, and how many entries of each sector are closed in it.
use Rattle.std.specs.Prelude.{◌≡◌, ℕ, ◌+◌, ◌<◌, Bool, List, [], ◌∷◌, length, map, slice_index}
use Rattle.std.specs.List.{sum, sum_by}
use Rattle.vx_cells.specs.SectorCells.{SectorCells}
use Rattle.vx_policy.specs.declared.version.Version.{Version}
use Rattle.vx_sector.specs.SectorData.{SectorData, EntryData}
use Rattle.vx_sector.specs.Windows.{count_of}
use Rattle.vx_windows.specs.Sectors.{entries_of, all_renewed, first_version}
use Rattle.vx_record.specs.Chronicles.{TickData, ChronicleData, IsRun, IsTickOn, map_after}
use Rattle.vx_record.specs.Said.{closed_at}

-- the chronicle, how many entries of each sector are in its windows, and whether it has room for a
-- tick more
pub record ArchiveData : Type 0 where
  pub chronicle : ChronicleData
  pub counts : List ℕ
  pub is_roomy : Bool

-- each count is the number of that sector's entries in the windows of these ticks
abbrev pub IsCounted : List ℕ → List TickData → Type 0
IsCounted counts ticks =
    (k : ℕ) → k < length counts → slice_index counts k ≡ length (closed_at k ticks)

-- how many calls are on record: the entries of these ticks' windows, and those of open windows
abbrev pub calls_on : List TickData → List (List EntryData) → ℕ
calls_on [] windows = sum_by length windows
calls_on (tick ∷ ticks) windows = sum_by length tick.windows + calls_on ticks windows

-- what holds of every archive: the chronicle is what the one-threaded rules give, and there is a
-- count for each sector, which is the number of its entries; together they are all on record
pub record IsArchive (chronicle : ChronicleData) (counts : List ℕ) : Type 0 where
  pub run : IsRun chronicle
  pub each : length counts ≡ length chronicle.opening.terrain.sectors
  pub counted : IsCounted counts chronicle.ticks
  pub total : sum counts ≡ calls_on chronicle.ticks []

-- the counts with the entries of further windows, one for each sector
abbrev pub next_counts : List ℕ → List (List EntryData) → List ℕ
next_counts [] windows = []
next_counts (n ∷ counts) [] = n ∷ counts
next_counts (n ∷ counts) (window ∷ windows) = (n + length window) ∷ next_counts counts windows

-- the tick is the next of the chronicle: the one that the rules give on the map after the others;
-- where it is the first, the opening's policy judges it
pub record IsNextTick (c : ChronicleData) (tick : TickData) : Type 0 where
  pub on : IsTickOn c.opening.names (map_after c.opening.terrain c.ticks) (length c.ticks + 1) tick
  pub first : c.ticks ≡ [] → tick.version ≡ first_version c.opening.policy

-- how many entries of a sector are closed, as the sector has it
abbrev pub closed_of : SectorData → ℕ
closed_of s = s.closed

-- counts that agree with sectors become, by the windows of these, how many entries each has
abbrev pub CountsGoOn : Type 0
CountsGoOn = (sectors : List SectorData)
    → next_counts (map closed_of sectors) (map entries_of sectors) ≡ map count_of sectors

-- and agree with them again as they begin their next windows
abbrev pub CountsAgreeAgain : Type 0
CountsAgreeAgain = (version : Version) (sectors : List SectorData) (cells : List SectorCells)
    → map closed_of (all_renewed version sectors cells) ≡ map count_of sectors
