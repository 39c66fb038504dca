-- What a script writes.
use Rattle.std.specs.Prelude.{◌≡◌, ℕ, Bool, true, false, codes, decimal, List, [], ◌∷◌, ◌++◌, length, Option, Some, None, Result, Ok, Err}
use Rattle.std.specs.Io.KnownBytes.{Appends}
use Rattle.vx_region.specs.Regions.{Regions}
use Rattle.vx_record.specs.Archives.{calls_on}
use Rattle.vx_record.specs.Openings.{OpeningData}
use Rattle.vx_play.specs.Plays.{PlayData, opened}
use Rattle.vx_audit.specs.Audits.{IsGameOf}
use Rattle.vx_audit.specs.Deeds.{DeedData, IsPlayed}
use Rattle.vx_audit.specs.Records.{RecordData, IsRecord}
use Rattle.vx_grammar.specs.ScriptLines.{Said}
use Rattle.vx_json.specs.Texts.{line_text}
use Rattle.vx_json.specs.Records.{record_text}
use Rattle.vx_script.specs.Headers.{Opening, HeaderEnd, Faulty, Bare, Begins, says_of, no_opening, header_end, is_peopled, begun}
use Rattle.vx_script.specs.Replies.{RepliesAll}
use Rattle.vx_script.specs.Stages.{Outside, StopsAt, is_inside, stage_behind}
use Rattle.vx_script.specs.declared.fault.Fault.{Fault}
use Rattle.vx_script.specs.declared.fault.Fault.TheVariants.{Syntax}

-- the last line: how many ticks and calls are on record
abbrev pub done_text : RecordData → List ℕ
done_text r = line_text (codes "done ticks " ++ decimal (length r.chronicle.ticks) ++ codes " calls "
    ++ decimal (calls_on r.chronicle.ticks r.windows))

-- the record, where it is asked for
abbrev pub record_lines : Bool → RecordData → List ℕ
record_lines true r = record_text r.chronicle r.windows
record_lines false r = []

-- what is written of a body without fault, whose blocks all have their ends: the replies to its lines,
-- which are played as a game by the one-threaded rules in a world that opens so, each block in some
-- order that keeps that of each player in each sector; the last line, and the record of that game,
-- whose chronicle is a run
pub record TellsGame (o : OpeningData) (json : Bool) (lines : List (Option Said)) (text : List ℕ)
    : Type 0 where
  pub deeds : List DeedData
  pub replies : List ℕ
  pub says : RepliesAll o.policy o.names Outside lines [] deeds replies
  pub closed : is_inside (stage_behind o.names Outside lines) ≡ false
  pub ending : RecordData
  pub opening : ending.chronicle.opening ≡ o
  pub sound : IsRecord ending
  pub game : IsGameOf ending deeds
  pub whole : text ≡ replies ++ (done_text ending ++ record_lines json ending)

-- what is written of a body that stops at line k, where its first line has number n: the replies to
-- the lines before it, which are played as such a game
pub record TellsUpTo (o : OpeningData) (n : ℕ) (lines : List (Option Said)) (k : ℕ) (text : List ℕ)
    : Type 0 where
  pub front : List (Option Said)
  pub stops : StopsAt o.names Outside n lines front k
  pub deeds : List DeedData
  pub says : RepliesAll o.policy o.names Outside front [] deeds text
  pub last : PlayData
  pub played : IsPlayed (opened o.policy o.terrain o.names) deeds last

-- what may be written of a body, and the fault that ends it, if one does
abbrev pub BodyTells : OpeningData → Bool → ℕ → List (Option Said) → List ℕ → Option Fault → Type 0
BodyTells o json n lines text None = TellsGame o json lines text
BodyTells o json n lines text (Some (Syntax k)) = TellsUpTo o n lines k text
BodyTells o json n lines text (Some fault) = ⊥

-- it is the body of a world that opens so, if there is one
abbrev pub WorldTells : Bool → ℕ → List (Option Said) → List ℕ → Option Fault
    → Result OpeningData Fault → Type 0
WorldTells json n lines text fault (Err cause) = (text ≡ []) × (fault ≡ Some cause)
WorldTells json n lines text fault (Ok o) = BodyTells o json n lines text fault

-- where a script ends in its header, the world is made if a player is in it
abbrev pub BareTells : Regions → Bool → Opening → ℕ → List ℕ → Option Fault → Bool → Type 0
BareTells rs json o n text fault true = WorldTells json n [] text fault (begun rs o n)
BareTells rs json o n text fault false = (text ≡ []) × (fault ≡ None)

-- what may be written from where the header ends
abbrev pub EndTells : Regions → Bool → HeaderEnd → List ℕ → Option Fault → Type 0
EndTells rs json (Faulty cause) text fault = (text ≡ []) × (fault ≡ Some cause)
EndTells rs json (Bare o n) text fault = BareTells rs json o n text fault (is_peopled o)
EndTells rs json (Begins o n first lines) text fault =
    WorldTells json n (Some first ∷ lines) text fault (begun rs o n)

-- what a script may write under these regions, and the fault that ends it, if one does
unfoldable pub MayTell : Regions → Bool → List ℕ → List ℕ → Option Fault → Type 0
MayTell rs json script text fault =
    EndTells rs json (header_end no_opening 1 (says_of script)) text fault

-- the lines of a body whose first line says this, where it has one, with the rest of the script
abbrev pub body_lines : Option Said → List ℕ → List (Option Said)
body_lines None rest = []
body_lines (Some first) rest = Some first ∷ says_of rest

-- what may be written was written
pub record Wrote (rs : Regions) (json : Bool) (script : List ℕ) (fault : Option Fault)
    (before after : Option (List ℕ)) : Type 0 where
  pub text : List ℕ
  pub written : Appends before after text
  pub may : MayTell rs json script text fault

-- so was what may be written of a body
pub record WroteBody (o : OpeningData) (json : Bool) (n : ℕ) (lines : List (Option Said))
    (fault : Option Fault) (before after : Option (List ℕ)) : Type 0 where
  pub text : List ℕ
  pub written : Appends before after text
  pub tells : BodyTells o json n lines text fault

-- so was what may be written from the line on at which the world is made
pub record WroteWorld (rs : Regions) (json : Bool) (o : Opening) (n : ℕ)
    (lines : List (Option Said)) (fault : Option Fault) (before after : Option (List ℕ)) : Type 0
  where
    pub text : List ℕ
    pub written : Appends before after text
    pub tells : WorldTells json n lines text fault (begun rs o n)

-- so was what may be written of a script that ends in its header
pub record WroteBare (rs : Regions) (json : Bool) (o : Opening) (n : ℕ) (fault : Option Fault)
    (before after : Option (List ℕ)) : Type 0 where
  pub text : List ℕ
  pub written : Appends before after text
  pub tells : BareTells rs json o n text fault (is_peopled o)
