-- Moves that nothing beats have no cell in common.
use Rattle.std.proofs.Common.{◌≡◌, true, inl, inr, subst}
use Rattle.std.proofs.lemmas.Bool.{and_from, both_ways, or_cases, false_from_ne_true}
use Rattle.vx_geom.specs.declared.pos.Pos.{Pos}
use Rattle.vx_geom.specs.Order.{comes_before}
use Rattle.vx_geom.proofs.OrderLemmas.{positions_ordered}
use Rattle.vx_power.specs.Levels.{has}
use Rattle.vx_power.proofs.Having.{has_at}
use Rattle.vx_power.proofs.Reach.{any_from}
use Rattle.vx_piston.specs.ClaimLaws.{LaterIsBeaten, UnbeatenIsFirst, UnbeatenAreApart}
use Rattle.vx_piston.specs.Claims.{shares, beats, IsBeatenBy}
use Rattle.vx_piston.specs.Moves.{Moving}

-- a claim beats a later move that shares a cell with it
beats_from : (claim m : Moving) → comes_before claim.at m.at ≡ true → shares claim m ≡ true
    → beats claim m ≡ true
unfolding beats
beats_from claim m first shared = and_from (comes_before claim.at m.at) (shares claim m) first shared

-- moves that take one cell both share it
pub shares_at : (a b : Moving) (p : Pos) → has a.cells p ≡ true → has b.cells p ≡ true → shares a b ≡ true
unfolding shares
shares_at a b p in_a in_b = any_from (has a.cells) b.cells p (has_at b.cells p in_b) in_a

-- a move that shares a cell with a claim before it is beaten
pub later_is_beaten : LaterIsBeaten
later_is_beaten claims claim m beaten among first shared is none =
    both_ways (beats claim m) (subst (IsBeatenBy claims m) none is claim among)
    (beats_from claim m first shared)

-- one that nothing beats shares none with a claim before it
pub unbeaten_is_first : UnbeatenIsFirst
unbeaten_is_first claims claim m unbeaten among first =
    false_from_ne_true _ (λ shared.
    both_ways (beats claim m) (unbeaten claim among) (beats_from claim m first shared))

-- and two that nothing beats have no cell in common
pub unbeaten_are_apart : UnbeatenAreApart
unbeaten_are_apart claims a b p a_claims b_claims differ a_unbeaten b_unbeaten in_a =
    false_from_ne_true _ (λ in_b. elim (or_cases _ _ (positions_ordered.total a.at b.at differ)) [
      | inl first ↦
          both_ways _ (unbeaten_is_first claims a b b_unbeaten a_claims first) (shares_at a b p in_a in_b)
      | inr later ↦
          both_ways _ (unbeaten_is_first claims b a a_unbeaten b_claims later) (shares_at b a p in_b in_a)
    ])
