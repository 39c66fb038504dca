-- Which of two moves that want one cell has it.
use Rattle.std.specs.Prelude.{◌≡◌, true, false, List, Option, Some, None}
use Rattle.vx_geom.specs.declared.pos.Pos.{Pos}
use Rattle.vx_geom.specs.Order.{comes_before}
use Rattle.vx_power.specs.Walks.{IsAmong}
use Rattle.vx_piston.specs.Claims.{beats, IsBeatenBy}
use Rattle.vx_piston.specs.Moves.{Moving}
use Rattle.vx_machine_laws.specs.Exactly.{Exactly}

-- the piston of the claim comes before that of the move, and both want some cell
abbrev pub IsRival : Moving → Moving → Type 0
IsRival claim move = (comes_before claim.at move.at ≡ true)
    × ((p : Pos) × IsAmong claim.cells p × IsAmong move.cells p)

-- a claim beats a move where it is its rival, beaten itself or not
abbrev pub RivalsBeat : Type 0
RivalsBeat = (claim move : Moving) → Exactly (beats claim move) (IsRival claim move)

-- nothing beats a move where no claim is its rival; else the first of its rivals does
abbrev pub IsBeaten : List Moving → Moving → Option Pos → Type 0
IsBeaten claims move None = (claim : Moving) → IsAmong claims claim → IsRival claim move → ⊥
IsBeaten claims move (Some first) =
    ((claim : Moving) × IsAmong claims claim × IsRival claim move × (claim.at ≡ first))
    × ((claim : Moving) → IsAmong claims claim → IsRival claim move
    → comes_before claim.at first ≡ false)

-- what beats a move is that and nothing else
pub record FirstRivalBeats (claims : List Moving) (move : Moving) (by : Option Pos) : Type 0 where
  pub only : IsBeatenBy claims move by → IsBeaten claims move by
  pub all : IsBeaten claims move by → IsBeatenBy claims move by

abbrev pub FirstRivalsBeat : Type 0
FirstRivalsBeat = (claims : List Moving) (move : Moving) (by : Option Pos)
    → FirstRivalBeats claims move by
