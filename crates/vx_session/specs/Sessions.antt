-- A session of play: what it has, and what it keeps of all that was done in it.
use mathlib.Core.List.{IsPrefix}
use Rattle.std.specs.Prelude.{◌≡◌, ℕ, ◌<◌, List, [], ◌∷◌, ◌++◌, length, map, slice_get, slice_index_or, Option, Some, None, Err}
use Rattle.std.specs.List.{All}
use Rattle.vx_geom.specs.Sizes.{Sizes, sector_of}
use Rattle.vx_policy.specs.Asked.{Asked}
use Rattle.vx_sector.specs.Commands.{place_of}
use Rattle.vx_sector.specs.SectorData.{SeatData, EntryData, seat_of}
use Rattle.vx_sector.specs.declared.refusal.Refusal.TheVariants.{OutOfWorld}
use Rattle.vx_record.specs.Chronicles.{TickData, IsSeatOf}
use Rattle.vx_record.specs.Openings.{OpeningData}
use Rattle.vx_record.specs.declared.call.Call.{Call}
use Rattle.vx_board.specs.declared.listed.Listed.{Listed}
use Rattle.vx_keeper.specs.Keepers.{KeeperData}
use Rattle.vx_world.specs.Openings.{seats_from}
use Rattle.vx_world.specs.declared.pass.Pass.{Pass}
use Rattle.vx_audit.specs.Deeds.{DeedData, edits_in}
use Rattle.vx_audit.specs.declared.mark.Mark.{Mark}
use Rattle.vx_audit.specs.Marks.{marks_of, calls_among, fates_among, said_by}
use Rattle.vx_session.specs.declared.player.Player.{Player}

-- a pass: its seat, and its recorded calls, in a list for each sector
pub record PassData : Type 0 where
  pub seat : SeatData
  pub lists : List (List Call)

-- a session: the size of its world, what its keeper knows, its passes in order of their seats, the
-- edits that were accepted in it, and the marks of what was done
pub record SessionData : Type 0 where
  pub sizes : Sizes
  pub keeper : KeeperData
  pub passes : List PassData
  pub edits : List Asked
  pub marks : List Mark

-- what a pass has
abbrev pub pass_in : {A B : Type 0} {P : _} {E : _} {N : _} {H : _} {S : _} → Pass A B P E N H S
    → PassData
pass_in pass = record { seat = seat_of pass.seat; lists = pass.lists }

-- what the pass of a player has
abbrev pub player_in : {A B : Type 0} {P : _} {E : _} {N : _} {H : _} {S : _}
    → Player A B P E N H S → PassData
player_in player = pass_in player.pass

-- the edits up to the last one that was accepted, if one was
abbrev pub edits_to : {J : Type 0} → Option (Listed J) → List Asked
edits_to None = []
edits_to (Some listed) = listed.front

-- how its world opened
abbrev pub opening_of : SessionData → OpeningData
opening_of s = s.keeper.chronicle.opening

-- the names of its players, in order of their seats
abbrev pub names_of : SessionData → List (List ℕ)
names_of s = (opening_of s).names

-- how many ticks there were
abbrev pub ticks_of : SessionData → ℕ
ticks_of s = length s.keeper.chronicle.ticks

-- what holds of every session: its world has the size with which it opened, each player has a pass,
-- and its keeper has seen each edit that was accepted
pub record IsSession (s : SessionData) : Type 0 where
  pub sizes : s.sizes ≡ (opening_of s).terrain.sizes
  pub seats : map (λ pass. pass.seat) s.passes ≡ seats_from 0 (names_of s)
  pub learnt : IsPrefix s.edits s.keeper.seen

-- each pass has the calls that these deeds say of its seat
abbrev pub AreSaid : Sizes → ℕ → List DeedData → List PassData → Type 0
AreSaid sizes sectors deeds passes = (seat k : ℕ) (pass : PassData)
    → slice_get passes seat ≡ Some pass → k < sectors
    → slice_index_or pass.lists k [] ≡ said_by sizes seat k deeds

-- the session was just these deeds, as far as it keeps them
pub record IsOf (deeds : List DeedData) (s : SessionData) : Type 0 where
  pub marks : s.marks ≡ marks_of s.sizes deeds
  pub said : AreSaid s.sizes (length (opening_of s).terrain.sectors) deeds s.passes
  pub seated : All (λ (call : EntryData). IsSeatOf (names_of s) call.seat) (calls_among deeds)
  pub outside : All (λ (call : EntryData). sector_of s.sizes (place_of call.cmd) ≡ None
      → call.answer ≡ Err OutOfWorld) (calls_among deeds)
  pub fates : fates_among deeds
      ≡ map (λ (tick : TickData). tick.fates) s.keeper.chronicle.ticks
  pub edits : s.edits ≡ edits_in deeds

-- one deed more was done, whatever was done before
abbrev pub Does : SessionData → DeedData → SessionData → Type 0
Does old deed new = (deeds : List DeedData) → IsOf deeds old → IsOf (deeds ++ deed ∷ []) new

-- the world opened as before, with the same edits and ticks
pub record Stays (old new : SessionData) : Type 0 where
  pub sizes : new.sizes ≡ old.sizes
  pub opening : opening_of new ≡ opening_of old
  pub edits : new.edits ≡ old.edits
  pub ticks : new.keeper.chronicle.ticks ≡ old.keeper.chronicle.ticks

-- a session with these parts
abbrev pub session_data : Sizes → KeeperData → List PassData → List Asked → List Mark
    → SessionData
session_data sizes keeper passes edits marks = record {
  sizes = sizes;
  keeper = keeper;
  passes = passes;
  edits = edits;
  marks = marks;
}
