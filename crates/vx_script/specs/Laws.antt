use Rattle.std.specs.Prelude.{◌≡◌, ◌≢◌, ◌⊎◌, ⊤, ℕ, Bool, List, [], ◌∷◌, IfSome, Option, Some, None, Ok}
use Rattle.vx_geom.specs.declared.pos.Pos.{Pos}
use Rattle.vx_region.specs.Regions.{Regions}
use Rattle.vx_decide.specs.declared.rule.Rule.{Rule}
use Rattle.vx_record.specs.Openings.{OpeningData}
use Rattle.vx_audit.specs.Owners.{HasLeaveAt, AreDeniedBy}
use Rattle.vx_grammar.specs.ScriptLines.{Said, Together}
use Rattle.vx_script.specs.FirstFault.{script_fault}
use Rattle.vx_script.specs.Headers.{HeaderEnd, Faulty, Bare, Begins, says_of, no_opening, header_end, begun}
use Rattle.vx_script.specs.Transcript.{TellsGame, MayTell}
use Rattle.vx_script.specs.declared.fault.Fault.{Fault}
use Rattle.vx_script.specs.declared.fault.Fault.TheVariants.{TooManyPlayers, Syntax}

-- a script can bring two faults: too many players, and a faulty line
abbrev pub IsOfScript : Fault → Type 0
IsOfScript TooManyPlayers = Unit {0}
IsOfScript (Syntax k) = Unit {0}
IsOfScript fault = ⊥

-- the fault of a script, if it has one, is one of these
abbrev pub ScriptFaults : Type 0
ScriptFaults = (rs : Regions) (script : List ℕ) → IfSome (script_fault rs script) IsOfScript

-- no block begins in these lines
abbrev pub HasNoBlock : List (Option Said) → Type 0
HasNoBlock [] = ⊤
HasNoBlock (line ∷ lines) = (line ≢ Some Together) × HasNoBlock lines

-- a script without blocks writes one text
abbrev pub ScriptsWriteOneText : Type 0
ScriptsWriteOneText = (rs : Regions) (json : Bool) (script one other : List ℕ)
    (fault again : Option Fault) → HasNoBlock (says_of script) → MayTell rs json script one fault
    → MayTell rs json script other again → one ≡ other

-- these lines are the body behind this header, whose world opens so
abbrev pub IsBodyOf : Regions → HeaderEnd → OpeningData → List (Option Said) → Type 0
IsBodyOf rs (Faulty cause) opening lines = ⊥
IsBodyOf rs (Bare header n) opening lines = (begun rs header n ≡ Ok opening) × (lines ≡ [])
IsBodyOf rs (Begins header n first rest) opening lines =
    (begun rs header n ≡ Ok opening) × (lines ≡ Some first ∷ rest)

-- the text tells the replies of a game whose steps are the lines behind this header; in the record
-- of that game what stands anywhere, and what a chest there holds, changes by leave alone, and
-- commands and moves are denied as the policy says
pub record TellsWithLeave (rs : Regions) (json : Bool) (header : HeaderEnd) (text : List ℕ) : Type 0
  where
    pub opening : OpeningData
    pub lines : List (Option Said)
    pub body : IsBodyOf rs header opening lines
    pub told : TellsGame opening json lines text
    pub leave : (p : Pos) → HasLeaveAt told.ending p
    pub denied : (rule : Rule) → AreDeniedBy told.ending rule

-- what a script without fault writes is nothing, where it has no world, or it tells such a game
abbrev pub ScriptsHaveLeave : Type 0
ScriptsHaveLeave = (rs : Regions) (json : Bool) (script text : List ℕ)
    → MayTell rs json script text None
    → (text ≡ []) ⊎ TellsWithLeave rs json (header_end no_opening 1 (says_of script)) text
