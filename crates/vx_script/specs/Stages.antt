-- The stages of a body: outside of any block, or in one.
use Rattle.std.specs.Prelude.{◌≡◌, ℕ, ◌+◌, ◌<◌, ⊤, Bool, true, false, ◌&&◌, nat_lt, ◌⊎◌, List, [], ◌∷◌, ◌++◌, length, Option, Some, None}
use Rattle.std.specs.List.{All}
use Rattle.vx_sector.specs.declared.cmd.Cmd.{Cmd}
use Rattle.vx_play.specs.Plays.{is_named, number_from}
use Rattle.vx_session.specs.declared.request.Request.{Request}
use Rattle.vx_grammar.specs.ScriptLines.{Said, Nothing, World, Player, Set, Act, Region, Tick, Explain, Together, End}
use Rattle.vx_script.specs.declared.stage.Stage as stage
use Rattle.vx_script.specs.declared.stage.TheConstants.{MOST_REQUESTS}

-- outside of any block, or in one, whose lines have asked for this so far
pub data Stage : Type 0 where
  Outside : Stage
  Inside : List Request → Stage

-- the stage that the code keeps
abbrev pub stage_in : stage.Stage → Stage
stage_in stage.Stage.Outside = Outside
stage_in (stage.Stage.Inside requests) = Inside requests.items

-- so many commands a block has at most
abbrev pub most_requests : ℕ
most_requests = MOST_REQUESTS

-- whether a line may stand outside of a block: a command and a question only of a player who was named
abbrev pub stands_outside : List (List ℕ) → Option Said → Bool
stands_outside names (Some Nothing) = true
stands_outside names (Some (Act name cmd)) = is_named names name
stands_outside names (Some (Explain name action p)) = is_named names name
stands_outside names (Some (Region e)) = true
stands_outside names (Some Tick) = true
stands_outside names (Some Together) = true
stands_outside names (Some End) = false
stands_outside names (Some (World sizes)) = false
stands_outside names (Some (Player name)) = false
stands_outside names (Some (Set p part)) = false
stands_outside names None = false

-- whether it may stand in a block that has asked for so much: a command of a player who was named,
-- where the block has room for it, and the end
abbrev pub stands_inside : List (List ℕ) → List Request → Option Said → Bool
stands_inside names asked (Some Nothing) = true
stands_inside names asked (Some (Act name cmd)) =
    is_named names name && nat_lt (length asked) most_requests
stands_inside names asked (Some End) = true
stands_inside names asked line = false

-- whether a line may stand in the body at this stage
abbrev pub may_stand : List (List ℕ) → Stage → Option Said → Bool
may_stand names Outside line = stands_outside names line
may_stand names (Inside asked) line = stands_inside names asked line

-- a command more is asked for from that seat, if there is one
abbrev pub with_request : List Request → Cmd → Option ℕ → List Request
with_request asked cmd None = asked
with_request asked cmd (Some seat) = asked ++ record { seat = seat; cmd = cmd } ∷ []

-- the stage after a line outside of a block, and after one in a block
abbrev pub after_outside : Option Said → Stage
after_outside (Some Together) = Inside []
after_outside line = Outside

abbrev pub after_inside : List (List ℕ) → List Request → Option Said → Stage
after_inside names asked (Some (Act name cmd)) =
    Inside (with_request asked cmd (number_from 0 names name))
after_inside names asked (Some End) = Outside
after_inside names asked line = Inside asked

-- the stage after a line
abbrev pub stage_after : List (List ℕ) → Stage → Option Said → Stage
stage_after names Outside line = after_outside line
stage_after names (Inside asked) line = after_inside names asked line

-- the stage after lines, one after another
abbrev pub stage_behind : List (List ℕ) → Stage → List (Option Said) → Stage
stage_behind names stage [] = stage
stage_behind names stage (line ∷ lines) = stage_behind names (stage_after names stage line) lines

-- a block has begun and not ended
abbrev pub is_inside : Stage → Bool
is_inside Outside = false
is_inside (Inside asked) = true

-- what a block asks for is of seats that are there
abbrev pub AreSeated : List (List ℕ) → Stage → Type 0
AreSeated names Outside = ⊤
AreSeated names (Inside asked) = All (λ (request : Request). request.seat < length names) asked

-- lines of which the first has number n are faulty at line k, before which these stand: it may not
-- stand there
pub record IsFaultyAt (names : List (List ℕ)) (stage : Stage) (n : ℕ) (lines : List (Option Said))
    (front : List (Option Said)) (k : ℕ) : Type 0 where
  pub faulty : Option Said
  pub behind : List (Option Said)
  pub parts : lines ≡ front ++ faulty ∷ behind
  pub number : k ≡ n + length front
  pub stands : may_stand names (stage_behind names stage front) faulty ≡ false

-- the lines end in a block, and line k is the last of them
pub record IsUnended (names : List (List ℕ)) (stage : Stage) (n : ℕ) (lines : List (Option Said))
    (front : List (Option Said)) (k : ℕ) : Type 0 where
  pub all : lines ≡ front
  pub number : k + 1 ≡ n + length front
  pub inside : is_inside (stage_behind names stage front) ≡ true

-- lines stop at line k, behind these
abbrev pub StopsAt : List (List ℕ) → Stage → ℕ → List (Option Said) → List (Option Said) → ℕ → Type 0
StopsAt names stage n lines front k =
    IsFaultyAt names stage n lines front k ⊎ IsUnended names stage n lines front k
