-- A walk over the record of a world, by what was kept of one deed after another.
use Rattle.std.specs.Prelude.{◌≡◌, ℕ, ◌+◌, ◌++◌, ⊤, List, [], ◌∷◌, filter, length, map, slice_get, slice_index_or, slice_set, Option, Some, None}
use Rattle.std.specs.List.{All}
use Rattle.vx_policy.specs.declared.version.Version.{Version}
use Rattle.vx_sector.specs.SectorData.{EntryData}
use Rattle.vx_record.specs.Chronicles.{TickData}
use Rattle.vx_record.specs.Said.{is_by}
use Rattle.vx_audit.specs.Counts.{SpotData, call_mark, is_spot}
use Rattle.vx_audit.specs.Records.{RecordData}
use Rattle.vx_audit.specs.declared.mark.Mark.{Mark}
use Rattle.vx_audit.specs.declared.mark.Mark.TheVariants as mark

-- what is left of each sector's window, the ticks that are left, of which the first closes these
-- windows, the windows that are open in the end and their version, and how many edits there were
pub record WalkData : Type 0 where
  pub lefts : List (List EntryData)
  pub ticks : List TickData
  pub pending : List (List EntryData)
  pub last : Version
  pub edits : ℕ

-- the windows that come first, closed by these ticks or open in the end
abbrev pub windows_in : List TickData → List (List EntryData) → List (List EntryData)
windows_in [] pending = pending
windows_in (tick ∷ ticks) pending = tick.windows

-- the version that judges them
abbrev pub version_in : List TickData → Version → Version
version_in [] last = last
version_in (tick ∷ ticks) last = tick.version

-- nothing is left
abbrev pub AreDone : List (List EntryData) → Type 0
AreDone lefts = All (λ left. left ≡ []) lefts

-- where it begins: in the first windows
abbrev pub start_of : RecordData → WalkData
start_of r = record {
  lefts = windows_in r.chronicle.ticks r.windows;
  ticks = r.chronicle.ticks;
  pending = r.windows;
  last = r.version;
  edits = 0;
}

-- what the marks of a deed tell: a call, a block of them, an edit or a tick
pub data TraceData : Type 0 where
  CallAt : SpotData → TraceData
  CallsAt : List SpotData → TraceData
  EditAt : TraceData
  TickAt : TraceData

-- the marks of a deed before others
abbrev pub marks_then : TraceData → List Mark → List Mark
marks_then (CallAt spot) others = call_mark spot ∷ others
marks_then (CallsAt spots) others = mark.Begin ∷ (map call_mark spots ++ mark.End ∷ others)
marks_then EditAt others = mark.Edit ∷ others
marks_then TickAt others = mark.Tick ∷ others

-- those of several deeds, one after another
abbrev pub all_marks : List TraceData → List Mark → List Mark
all_marks [] others = others
all_marks (trace ∷ traces) others = marks_then trace (all_marks traces others)

-- each list is a front and a rest
abbrev pub AreParts : List (List EntryData) → List (List EntryData) → List (List EntryData) → Type 0
AreParts [] [] [] = ⊤
AreParts (left ∷ lefts) (front ∷ fronts) (rest ∷ rests) =
    (left ≡ front ++ rest) × AreParts lefts fronts rests
AreParts lefts fronts rests = ⊥

-- the next entry in the window of that sector is of that seat
pub record FollowsIn (w : WalkData) (seat k : ℕ) (next : WalkData) : Type 0 where
  pub entry : EntryData
  pub rest : List EntryData
  pub found : slice_get w.lefts k ≡ Some (entry ∷ rest)
  pub by : entry.seat.number ≡ seat
  pub after : next ≡ record w { lefts = slice_set w.lefts k rest }

-- out of the world a call leaves no trace
abbrev pub FollowsCall : WalkData → ℕ → WalkData → Option ℕ → Type 0
FollowsCall w seat next None = next ≡ w
FollowsCall w seat next (Some k) = FollowsIn w seat k next

-- of each sector's window a front comes next that has as many entries of each seat as there are
-- calls
pub record FollowsBlock (w : WalkData) (spots : List SpotData) (next : WalkData) : Type 0 where
  pub fronts : List (List EntryData)
  pub rests : List (List EntryData)
  pub parts : AreParts w.lefts fronts rests
  pub counts : (seat k : ℕ)
      → length (filter (is_by seat) (slice_index_or fronts k [])) ≡ length (filter (is_spot seat k) spots)
  pub after : next ≡ record w { lefts = rests }

-- nothing is left of the windows, and for the next ones all edits so far count
pub record FollowsTick (w next : WalkData) : Type 0 where
  pub tick : TickData
  pub ticks : List TickData
  pub there : w.ticks ≡ tick ∷ ticks
  pub closed : AreDone w.lefts
  pub counted : (version_in ticks w.last).edits ≡ w.edits
  pub after : next ≡ record w { lefts = windows_in ticks w.pending; ticks = ticks }

abbrev pub Follows : WalkData → TraceData → WalkData → Type 0
Follows w (CallAt spot) next = FollowsCall w spot.0 next spot.1
Follows w (CallsAt spots) next = FollowsBlock w spots next
Follows w EditAt next = next ≡ record w { edits = w.edits + 1 }
Follows w TickAt next = FollowsTick w next

abbrev pub FollowsAll : WalkData → List TraceData → WalkData → Type 0
FollowsAll w [] last = last ≡ w
FollowsAll w (trace ∷ traces) last =
    (next : WalkData) × Follows w trace next × FollowsAll next traces last

-- the marks begin with those of a deed that the record has next, and these are the others
pub record GoesOn (w : WalkData) (marks : List Mark) (next : WalkData) (others : List Mark) : Type 0 where
  pub trace : TraceData
  pub follows : Follows w trace next
  pub parts : marks ≡ marks_then trace others

-- they begin with a block of calls that the record has next
pub record GoesOnBlock (w : WalkData) (marks : List Mark) (next : WalkData) (others : List Mark) : Type 0 where
  pub spots : List SpotData
  pub follows : FollowsBlock w spots next
  pub parts : marks ≡ map call_mark spots ++ mark.End ∷ others

-- nothing is left of the record
pub record IsEnd (w : WalkData) : Type 0 where
  pub ticks : w.ticks ≡ []
  pub closed : AreDone w.lefts
