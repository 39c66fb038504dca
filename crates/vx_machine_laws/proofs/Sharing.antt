-- Moves that want one cell.
use Rattle.std.proofs.Common.{◌≡◌, true, false, inl, inr, List, Option, Some, None, sym, ◌∙◌}
use Rattle.std.proofs.lemmas.Bool.{cases_Bool, and_parts, and_from, false≢true}
use Rattle.vx_geom.specs.declared.pos.Pos.{Pos}
use Rattle.vx_geom.specs.Order.{comes_before}
use Rattle.vx_power.specs.Levels.{has}
use Rattle.vx_power.specs.Walks.{IsAmong}
use Rattle.vx_power.proofs.Having.{has_at, has_from}
use Rattle.vx_power.proofs.Reach.{any_at, any_from}
use Rattle.vx_piston.specs.Claims.{shares, beats, IsBeatenBy}
use Rattle.vx_piston.specs.Moves.{Moving}
use Rattle.vx_machine_laws.specs.Rivals.{IsRival, RivalsBeat, IsBeaten, FirstRivalsBeat}

module _ (claim move : Moving) where
  shares_at : shares claim move ≡ true → (p : Pos) × IsAmong claim.cells p × IsAmong move.cells p
  unfolding shares
  shares_at is =
      let at = any_at (has claim.cells) move.cells is in
      (at.0, has_at claim.cells at.0 at.2, at.1)

  shares_from : (p : Pos) × IsAmong claim.cells p × IsAmong move.cells p → shares claim move ≡ true
  unfolding shares
  shares_from at = any_from (has claim.cells) move.cells at.0 at.2 (has_from claim.cells at.0 at.1)

  beats_at : beats claim move ≡ true → IsRival claim move
  unfolding beats
  beats_at is =
      let parts = and_parts (comes_before claim.at move.at) (shares claim move) is in
      (parts.0, shares_at parts.1)

  beats_from : IsRival claim move → beats claim move ≡ true
  unfolding beats
  beats_from rival =
      and_from (comes_before claim.at move.at) (shares claim move) rival.0 (shares_from rival.1)

  unbeaten : beats claim move ≡ false → IsRival claim move → ⊥
  unbeaten none rival = false≢true (sym none ∙ beats_from rival)

  no_rival : (IsRival claim move → ⊥) → beats claim move ≡ false
  no_rival none = elim (cases_Bool (beats claim move)) [
    | inl is ↦ absurd (none (beats_at is))
    | inr is ↦ is
  ]

pub rivals_beat : RivalsBeat
rivals_beat claim move = record { only = beats_at claim move; all = beats_from claim move }

beaten_at : (claims : List Moving) (move : Moving) (by : Option Pos) → IsBeatenBy claims move by → IsBeaten claims move by
beaten_at claims move None is = λ claim among. unbeaten claim move (is claim among)
beaten_at claims move (Some q) is = (
  (is.0.0, is.0.1, beats_at is.0.0 move is.0.2, is.0.3),
  λ claim among rival. is.1 claim among (beats_from claim move rival),
)

beaten_from : (claims : List Moving) (move : Moving) (by : Option Pos) → IsBeaten claims move by → IsBeatenBy claims move by
beaten_from claims move None is = λ claim among. no_rival claim move (is claim among)
beaten_from claims move (Some q) is = (
  (is.0.0, is.0.1, beats_from is.0.0 move is.0.2, is.0.3),
  λ claim among beaten. is.1 claim among (beats_at claim move beaten),
)

pub first_rivals_beat : FirstRivalsBeat
first_rivals_beat claims move by = record { only = beaten_at claims move by; all = beaten_from claims move by }
