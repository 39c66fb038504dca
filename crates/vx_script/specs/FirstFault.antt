-- The fault of a script, which its lines alone decide.
use Rattle.std.specs.Prelude.{◌≡◌, ◌≢◌, ℕ, ◌+◌, ◌-◌, ◌⊎◌, Bool, List, [], ◌∷◌, ◌++◌, length, Option, Some, None, Result, Ok, Err, if◌then◌else◌}
use Rattle.vx_record.specs.Openings.{OpeningData}
use Rattle.vx_region.specs.Regions.{Regions}
use Rattle.vx_grammar.specs.ScriptLines.{Said, End}
use Rattle.vx_script.specs.Headers.{Opening, HeaderEnd, Faulty, Bare, Begins, says_of, no_opening, header_end, is_peopled, begun}
use Rattle.vx_script.specs.Stages.{Stage, Outside, may_stand, stage_after, is_inside}
use Rattle.vx_script.specs.Transcript.{MayTell}
use Rattle.vx_script.specs.declared.fault.Fault.{Fault}
use Rattle.vx_script.specs.declared.fault.Fault.TheVariants.{Syntax}

-- the fault of a body from a stage on, whose first line has number n: that of the first line that
-- may not stand there, or, where the lines end in a block, of the last one
abbrev pub body_fault : List (List ℕ) → Stage → ℕ → List (Option Said) → Option Fault
body_fault names stage n [] = if is_inside stage then Some (Syntax (n - 1)) else None
body_fault names stage n (line ∷ lines) =
    if may_stand names stage line
    then body_fault names (stage_after names stage line) (n + 1) lines
    else Some (Syntax n)

-- the fault of a world that opens so at line n, or of its body
abbrev pub world_fault : ℕ → List (Option Said) → Result OpeningData Fault → Option Fault
world_fault n lines (Err cause) = Some cause
world_fault n lines (Ok o) = body_fault o.names Outside n lines

-- the fault of a script that goes on so from where its header ends
abbrev pub end_fault : Regions → HeaderEnd → Option Fault
end_fault rs (Faulty cause) = Some cause
end_fault rs (Bare o n) = if is_peopled o then world_fault n [] (begun rs o n) else None
end_fault rs (Begins o n first lines) = world_fault n (Some first ∷ lines) (begun rs o n)

-- the fault of lines from the header on, the first of which has number n
abbrev pub lines_fault : Regions → Opening → ℕ → List (Option Said) → Option Fault
lines_fault rs o n lines = end_fault rs (header_end o n lines)

-- the fault of a script
abbrev pub script_fault : Regions → List ℕ → Option Fault
script_fault rs script = lines_fault rs no_opening 1 (says_of script)

-- whatever a script writes, it ends by this fault, or by none
abbrev pub FaultsAreOfTheScript : Type 0
FaultsAreOfTheScript = (rs : Regions) (json : Bool) (script text : List ℕ) (fault : Option Fault)
    → MayTell rs json script text fault → fault ≡ script_fault rs script

-- these lines have no faulty one, as they are or with the end of the block in which they end
abbrev pub AreSound : (List (Option Said) → Option Fault) → List (Option Said) → Type 0
AreSound fault_of lines =
    ((j : ℕ) → fault_of lines ≢ Some (Syntax j))
    ⊎ ((j : ℕ) → fault_of (lines ++ Some End ∷ []) ≢ Some (Syntax j))

-- line k of these lines, the first of which has number n, is the one at which they fault, whatever
-- follows it; no line before it is faulty
pub record IsFirstFault (fault_of : List (Option Said) → Option Fault) (n : ℕ)
    (lines : List (Option Said)) (k : ℕ) : Type 0 where
  pub before : List (Option Said)
  pub faulty : Option Said
  pub behind : List (Option Said)
  pub parts : lines ≡ before ++ faulty ∷ behind
  pub number : k ≡ n + length before
  pub sound : AreSound fault_of before
  pub whatever : (more : List (Option Said)) → fault_of (before ++ faulty ∷ more) ≡ Some (Syntax k)

-- line k is the last of these lines, and none of them is faulty: they want the end of a block
pub record IsOpenBlock (fault_of : List (Option Said) → Option Fault) (n : ℕ)
    (lines : List (Option Said)) (k : ℕ) : Type 0 where
  pub number : k + 1 ≡ n + length lines
  pub sound : (j : ℕ) → fault_of (lines ++ Some End ∷ []) ≢ Some (Syntax j)

-- a script faults at its first faulty line, which it has, whatever follows that line; or at its last
-- one, where it ends in a block
abbrev pub FirstFault : Type 0
FirstFault = (rs : Regions) (script : List ℕ) (k : ℕ) → script_fault rs script ≡ Some (Syntax k)
    → IsFirstFault (lines_fault rs no_opening 1) 1 (says_of script) k
    ⊎ IsOpenBlock (lines_fault rs no_opening 1) 1 (says_of script) k
