-- What a world has in the end, and which of that the rules give.
use Rattle.std.specs.Prelude.{◌≡◌, ℕ, ◌+◌, ◌≤◌, List, [], ◌++◌, length, map, slice_get, unwrap_or}
use Rattle.vx_board.specs.Accepted.{most_edits}
use Rattle.vx_policy.specs.Asked.{Asked}
use Rattle.vx_policy.specs.Edits.{AreAccepted}
use Rattle.vx_policy.specs.declared.version.Version.{Version}
use Rattle.vx_sector.specs.SectorData.{EntryData}
use Rattle.vx_sector.specs.Windows.{most_entries}
use Rattle.vx_windows.specs.Limits.{most_ticks}
use Rattle.vx_windows.specs.Sectors.{entries_of, first_version}
use Rattle.vx_record.specs.Chronicles.{TickData, AreWindows, AreGrown, IsRun, map_after, version_by}
use Rattle.vx_record.specs.Openings.{OpeningData}
use Rattle.vx_record.specs.Said.{closed_at}
use Rattle.vx_core.specs.Machines.{MachineData}

-- the ticks, the edits that were accepted, and of the windows that are open the version that
-- judges them and their records
pub record OutcomeData : Type 0 where
  pub ticks : List TickData
  pub accepted : List Asked
  pub version : Version
  pub windows : List (List EntryData)

-- what a machine has
abbrev pub outcome : MachineData → OutcomeData
outcome m = record {
  ticks = m.ticks;
  accepted = m.play.accepted;
  version = m.play.version;
  windows = map entries_of m.play.sectors;
}

-- the rules give it of an opening: the ticks are a run; each open window is a window over its
-- sector of the map after them; each edit was accepted in its turn; and each version is the policy
-- after the first so many of these edits, no fewer than the one before it and none in the first
pub record IsByTheRules (o : OpeningData) (r : OutcomeData) : Type 0 where
  pub run : IsRun (record { opening = o; ticks = r.ticks })
  pub pending : AreWindows o.names r.version.policy (map_after o.terrain r.ticks).sectors r.windows
  pub accepted : AreAccepted o.policy r.accepted
  pub begins : r.ticks ≡ [] → r.version ≡ first_version o.policy
  pub grown : AreGrown o.policy r.accepted 0 r.ticks r.version.edits
  pub last : r.version ≡ version_by o.policy r.accepted r.version.edits (length r.ticks + 1)
  pub within : r.version.edits ≤ length r.accepted

-- the entries of sector k, in the windows of these ticks and in the open one
abbrev pub entries_at : ℕ → List TickData → List (List EntryData) → List EntryData
entries_at k ticks windows = closed_at k ticks ++ unwrap_or (slice_get windows k) []

-- there are no more ticks than a world may have, no more edits than a desk accepts, and in no
-- sector more entries than it records
pub record HasRoom (ticks : List TickData) (edits : List Asked) (windows : List (List EntryData))
    : Type 0 where
  pub tick_room : length ticks ≤ most_ticks
  pub edit_room : length edits ≤ most_edits
  pub entry_room : (k : ℕ) → length (entries_at k ticks windows) ≤ most_entries

-- the rules give it, and there is room for it
abbrev pub IsReachable : OpeningData → OutcomeData → Type 0
IsReachable o r = IsByTheRules o r × HasRoom r.ticks r.accepted r.windows
