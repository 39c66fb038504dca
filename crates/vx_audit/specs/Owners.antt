-- What may change a world on record, in the words of those who own plots in it.
use Rattle.std.specs.Prelude.{◌≡◌, ◌+◌, List, [], ◌∷◌, ◌++◌, length}
use Rattle.vx_geom.specs.declared.pos.Pos.{Pos}
use Rattle.vx_cells.specs.MapLaws.{IsFilled}
use Rattle.vx_cells.specs.Maps.{MapData}
use Rattle.vx_decide.specs.declared.rule.Rule.{Rule}
use Rattle.vx_sector.specs.SectorData.{EntryData}
use Rattle.vx_record.specs.Chronicles.{TickData, map_after}
use Rattle.vx_record.specs.Owners.{map_before, IsRecorded, EachCommandHasLeave, IsStepByStep, ChangesByLeave, IsDeniedBy, IsMoveDeniedBy}
use Rattle.vx_audit.specs.Records.{RecordData, IsRecord}

-- the map as the last tick leaves it, on which the open windows begin
abbrev pub map_begun : RecordData → MapData
map_begun r = map_after r.chronicle.opening.terrain r.chronicle.ticks

-- the commands in the open windows as those of the next tick, whose machines did not step yet
abbrev pub next_tick : RecordData → TickData
next_tick r = record {
  number = length r.chronicle.ticks + 1;
  version = r.version;
  windows = r.windows;
  fates = [];
}

-- what stands at p, and what a chest there holds, changes by leave alone: in each tick by a command
-- that the policy of the tick permits to its player there, or by a machine's move that it permits to
-- the machine; and behind the last tick, where no machine has stepped, by a command that the policy of
-- the open windows permits
pub record HasLeaveAt (r : RecordData) (p : Pos) : Type 0 where
  pub ticks : (before : List TickData) (tick : TickData) (later : List TickData)
      → r.chronicle.ticks ≡ before ++ tick ∷ later
      → ChangesByLeave r.chronicle.opening.names (map_before r.chronicle before) tick p
  pub behind : EachCommandHasLeave r.chronicle.opening.names (map_begun r) (next_tick r) p
  pub since : IsStepByStep (map_begun r) (next_tick r) p

-- so it does in each record of a world in which something stands at each place
abbrev pub RecordsHaveLeave : Type 0
RecordsHaveLeave = (r : RecordData) (p : Pos) → IsRecord r → IsFilled r.chronicle.opening.terrain
    → HasLeaveAt r p

-- commands and machines' moves are denied by a rule exactly where the policy denies them by it: in
-- each tick the policy of the tick, and behind the last tick that of the open windows
pub record AreDeniedBy (r : RecordData) (rule : Rule) : Type 0 where
  pub commands : (before : List TickData) (tick : TickData) (later : List TickData) (entry : EntryData)
      → r.chronicle.ticks ≡ before ++ tick ∷ later → IsRecorded tick entry
      → IsDeniedBy tick.version.policy entry rule
  pub moves : (before : List TickData) (tick : TickData) (later : List TickData) (q p : Pos)
      → r.chronicle.ticks ≡ before ++ tick ∷ later
      → IsMoveDeniedBy (map_before r.chronicle before) tick q p rule
  pub behind : (entry : EntryData) → IsRecorded (next_tick r) entry
      → IsDeniedBy r.version.policy entry rule

-- so they are in each record of such a world
abbrev pub RecordsDenyByThePolicy : Type 0
RecordsDenyByThePolicy = (r : RecordData) (rule : Rule) → IsRecord r
    → IsFilled r.chronicle.opening.terrain → AreDeniedBy r rule
