-- What is done in a session by the lines of a body, and written.
use Rattle.std.specs.Prelude.{◌≡◌, ℕ, false, List, ◌++◌, Option}
use Rattle.std.specs.Io.KnownBytes.{Appends}
use Rattle.vx_region.specs.Regions.{Regions}
use Rattle.vx_play.specs.Plays.{PlayData, opened}
use Rattle.vx_audit.specs.Audits.{IsGameOf}
use Rattle.vx_audit.specs.Deeds.{DeedData, IsPlayed}
use Rattle.vx_audit.specs.Records.{RecordData, IsRecord}
use Rattle.vx_session.specs.Sessions.{SessionData, IsOf, opening_of, names_of}
use Rattle.vx_grammar.specs.ScriptLines.{Said}
use Rattle.vx_script.specs.Replies.{RepliesAll}
use Rattle.vx_script.specs.Stages.{Stage, StopsAt, is_inside, stage_behind}
use Rattle.vx_script.specs.declared.fault.Fault.{Fault}
use Rattle.vx_script.specs.declared.fault.Fault.TheVariants.{Syntax}

-- the lines were done in the session from this stage on, whatever was done before, and the replies
-- to them written
pub record HasDone (rs : Regions) (old new : SessionData) (stage : Stage)
    (lines : List (Option Said)) (before after : Option (List ℕ)) : Type 0 where
  pub deeds : List DeedData
  pub text : List ℕ
  pub opening : opening_of new ≡ opening_of old
  pub written : Appends before after text
  pub says : (done : List DeedData) → IsOf done old
      → RepliesAll rs (names_of old) stage lines done deeds text × IsOf (done ++ deeds) new

-- all lines were done, and they end in no block
pub record HasEnded (rs : Regions) (old new : SessionData) (stage : Stage)
    (lines : List (Option Said)) (before after : Option (List ℕ)) : Type 0 where
  pub done : HasDone rs old new stage lines before after
  pub closed : is_inside (stage_behind (names_of old) stage lines) ≡ false

-- the lines were done up to the one at which they stop, and that is the fault, where the first of
-- them has number n
pub record StoppedAt (rs : Regions) (old new : SessionData) (stage : Stage) (n : ℕ)
    (lines : List (Option Said)) (before after : Option (List ℕ)) (fault : Fault) : Type 0 where
  pub front : List (Option Said)
  pub line : ℕ
  pub stops : StopsAt (names_of old) stage n lines front line
  pub number : fault ≡ Syntax line
  pub done : HasDone rs old new stage front before after

-- whatever was done in the session, it is a game by the one-threaded rules, and this is its record
pub record EndsWith (s : SessionData) (r : RecordData) : Type 0 where
  pub opening : r.chronicle.opening ≡ opening_of s
  pub sound : IsRecord r
  pub game : (deeds : List DeedData) → IsOf deeds s → IsGameOf r deeds

-- whatever was done in the session, it is a game by the one-threaded rules
abbrev pub IsPlayable : SessionData → Type 0
IsPlayable s = (deeds : List DeedData) → IsOf deeds s
    → (last : PlayData)
    × IsPlayed (opened (opening_of s).policy (opening_of s).terrain (opening_of s).names) deeds last
