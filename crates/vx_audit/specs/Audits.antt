-- What an audit of a record tells.
use Rattle.std.specs.Prelude.{◌≡◌, List, Vec, length, map}
use Rattle.std.specs.declared.alloc.Global.{Global}
use Rattle.vx_policy.specs.declared.version.Version.{Version}
use Rattle.vx_sector.specs.declared.entry.Entry.{Entry}
use Rattle.vx_windows.specs.Sectors.{entries_in, entries_of}
use Rattle.vx_play.specs.Plays.{PlayData, opened, calls}
use Rattle.vx_record.specs.Archives.{calls_on}
use Rattle.vx_record.specs.Records.{chronicle_in}
use Rattle.vx_record.specs.declared.chronicle.Chronicle.{Chronicle}
use Rattle.vx_audit.specs.Deeds.{DeedData, IsPlayed}
use Rattle.vx_audit.specs.Recorded.{IsRecorded}
use Rattle.vx_audit.specs.Records.{RecordData}

-- what is handed out in the end
abbrev pub record_in : Chronicle → List (Vec Entry Global) → Version → RecordData
record_in chronicle windows version = record {
  chronicle = chronicle_in chronicle;
  windows = map entries_in windows;
  version = version;
}

-- the deeds are a game in the world that opened so: what was told of each is what the game gives,
-- one after another; and the record is what that game records: its ticks, the open windows and
-- their version; it has as many ticks and recorded calls
pub record IsGameOf (r : RecordData) (deeds : List DeedData) : Type 0 where
  pub last : PlayData
  pub played : IsPlayed
      (opened r.chronicle.opening.policy r.chronicle.opening.terrain r.chronicle.opening.names)
      deeds last
  pub recorded : IsRecorded
      (opened r.chronicle.opening.policy r.chronicle.opening.terrain r.chronicle.opening.names)
      deeds r.chronicle.ticks last
  pub windows : map entries_of last.sectors ≡ r.windows
  pub version : last.version ≡ r.version
  pub ticks : last.ticks ≡ length r.chronicle.ticks
  pub calls : calls last ≡ calls_on r.chronicle.ticks r.windows
