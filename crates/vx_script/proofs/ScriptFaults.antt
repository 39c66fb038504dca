-- A script has no other fault than too many players and a faulty line.
use Rattle.std.proofs.Common.{ℕ, ◌+◌, Bool, true, false, List, [], ◌∷◌, length, Option, Some, None, Ok, Err, IfSome, nat_lt, if◌then◌else◌}
use Rattle.vx_cells.specs.Maps.{MapData}
use Rattle.vx_grammar.specs.ScriptLines.{Said, Nothing, World, Player, Set, Act, Region, Tick, Explain, Together, End}
use Rattle.vx_play.specs.Plays.{is_named}
use Rattle.vx_region.specs.Regions.{Regions}
use Rattle.vx_windows.specs.Limits.{most_players}
use Rattle.vx_script.specs.declared.fault.Fault.TheVariants.{Syntax, TooManyPlayers}
use Rattle.vx_script.specs.FirstFault.{body_fault, world_fault, end_fault}
use Rattle.vx_script.specs.Headers.{Opening, HeaderEnd, Bare, Begins, or_faulty, begins_if, header_after, header_line, header_end, is_peopled, begun, begun_on, no_opening, says_of}
use Rattle.vx_script.specs.Laws.{IsOfScript, ScriptFaults}
use Rattle.vx_script.specs.Stages.{Stage, Outside, Inside, may_stand, stage_after}

-- where a header ends so, the script ends well, or by one of these faults
abbrev EndsRight : Regions → HeaderEnd → Type 0
EndsRight rs end = IfSome (end_fault rs end) IsOfScript

body_right : (names : List (List ℕ)) (stage : Stage) (n : ℕ) (lines : List (Option Said)) → IfSome (body_fault names stage n lines) IsOfScript
body_right names Outside n [] = tt
body_right names (Inside asked) n [] = tt
body_right names stage n (line ∷ lines) = by (may_stand names stage line) (body_right names (stage_after names stage line) (n + 1) lines)
  where
    by : (b : Bool) → IfSome (body_fault names (stage_after names stage line) (n + 1) lines) IsOfScript
        → IfSome (if b then body_fault names (stage_after names stage line) (n + 1) lines else Some (Syntax n)) IsOfScript
    by true later = later
    by false later = tt

world_right : (rs : Regions) (names : List (List ℕ)) (n m : ℕ) (lines : List (Option Said)) (terrain : Option MapData) → IfSome (world_fault m lines (begun_on rs names n terrain)) IsOfScript
world_right rs names n m lines None = tt
world_right rs names n m lines (Some terrain) = by (nat_lt most_players (length names))
  where
    by : (b : Bool) → IfSome (world_fault m lines (if b then Err TooManyPlayers else Ok (record { terrain = terrain; names = names; policy = rs }))) IsOfScript
    by true = tt
    by false = body_right names Outside m lines

bare_right : (rs : Regions) (o : Opening) (n : ℕ) → EndsRight rs (Bare o n)
unfolding begun
bare_right rs o n = by (is_peopled o)
  where
    by : (b : Bool) → IfSome (if b then world_fault n [] (begun_on rs o.names n o.terrain) else None) IsOfScript
    by true = world_right rs o.names n n [] o.terrain
    by false = tt

begins_right : (rs : Regions) (o : Opening) (n : ℕ) (may_stand : Bool) (first : Said) (lines : List (Option Said)) → EndsRight rs (begins_if n may_stand (Begins o n first lines))
unfolding begun
begins_right rs o n true first lines = world_right rs o.names n n (Some first ∷ lines) o.terrain
begins_right rs o n false first lines = tt

goes_right : (rs : Regions) (n : ℕ) (next : Option Opening) (go : Opening → HeaderEnd) → ((o : Opening) → EndsRight rs (go o)) → EndsRight rs (or_faulty n next go)
goes_right rs n None go right = tt
goes_right rs n (Some o) go right = right o

line_right : (rs : Regions) (o : Opening) (n : ℕ) (line : Option Said) (lines : List (Option Said)) (go : Opening → HeaderEnd) → ((next : Opening) → EndsRight rs (go next))
    → EndsRight rs (header_line o n line go (λ first. Begins o n first lines))
unfolding header_line
line_right rs o n None lines go right = tt
line_right rs o n (Some Nothing) lines go right = goes_right rs n (header_after o Nothing) go right
line_right rs o n (Some (World sizes)) lines go right = goes_right rs n (header_after o (World sizes)) go right
line_right rs o n (Some (Player name)) lines go right = goes_right rs n (header_after o (Player name)) go right
line_right rs o n (Some (Set p part)) lines go right = goes_right rs n (header_after o (Set p part)) go right
line_right rs o n (Some (Act name cmd)) lines go right = begins_right rs o n (is_named o.names name) (Act name cmd) lines
line_right rs o n (Some (Explain name action p)) lines go right = begins_right rs o n (is_named o.names name) (Explain name action p) lines
line_right rs o n (Some (Region e)) lines go right = begins_right rs o n (is_peopled o) (Region e) lines
line_right rs o n (Some Tick) lines go right = begins_right rs o n (is_peopled o) Tick lines
line_right rs o n (Some Together) lines go right = begins_right rs o n (is_peopled o) Together lines
line_right rs o n (Some End) lines go right = goes_right rs n (header_after o End) go right

header_right : (rs : Regions) (o : Opening) (n : ℕ) (lines : List (Option Said)) → EndsRight rs (header_end o n lines)
header_right rs o n [] = bare_right rs o n
header_right rs o n (line ∷ lines) = line_right rs o n line lines (λ next. header_end next (n + 1) lines) (λ next. header_right rs next (n + 1) lines)

pub script_faults : ScriptFaults
script_faults rs script = header_right rs no_opening 1 (says_of script)
