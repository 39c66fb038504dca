-- What a world hands out in the end.
use Rattle.std.specs.Prelude.{◌≡◌, ◌+◌, List, [], length}
use Rattle.vx_policy.specs.Asked.{Asked}
use Rattle.vx_policy.specs.declared.version.Version.{Version}
use Rattle.vx_sector.specs.SectorData.{EntryData}
use Rattle.vx_windows.specs.Sectors.{first_version}
use Rattle.vx_record.specs.Chronicles.{ChronicleData, IsRun, AreWindows, AreGrown, map_after, version_by}

-- the chronicle, and of the windows that are open their records and the version that judges them
pub record RecordData : Type 0 where
  pub chronicle : ChronicleData
  pub windows : List (List EntryData)
  pub version : Version

-- the chronicle is a run, and each open window is a window over its sector of the map after the
-- ticks, by that version
pub record IsRecord (r : RecordData) : Type 0 where
  pub run : IsRun r.chronicle
  pub pending : AreWindows r.chronicle.opening.names r.version.policy
      (map_after r.chronicle.opening.terrain r.chronicle.ticks).sectors r.windows

-- each version is the policy of the opening after the first so many of these edits; where there is
-- no tick, after none
pub record IsByEdits (edits : List Asked) (r : RecordData) : Type 0 where
  pub begins : r.chronicle.ticks ≡ [] → r.version ≡ first_version r.chronicle.opening.policy
  pub grown : AreGrown r.chronicle.opening.policy edits 0 r.chronicle.ticks r.version.edits
  pub last : r.version ≡ version_by r.chronicle.opening.policy edits r.version.edits
      (length r.chronicle.ticks + 1)
