-- Moves that are made: permitted, and beaten by none of those that are permitted.
use Rattle.std.proofs.Common.{◌≡◌, Bool, true, false, List, [], ◌∷◌, cond, inl, inr, Option, Some, None, refl, sym, ap, ◌∙◌, subst}
use Rattle.std.specs.List.{filter}
use Rattle.std.specs.Option.{is_none}
use Rattle.std.proofs.lemmas.Bool.{both_ways, false_from_ne_true}
use Rattle.vx_region.specs.Regions.{Regions}
use Rattle.vx_power.specs.Walks.{IsAmong}
use Rattle.vx_power.proofs.Reach.{any_at}
use Rattle.vx_power.proofs.Having.{has_from}
use Rattle.vx_piston.specs.Claims.{shares}
use Rattle.vx_piston.specs.Moves.{Moving}
use Rattle.vx_piston.proofs.Apart.{later_is_beaten, unbeaten_are_apart}
use Rattle.vx_cause.specs.Judging.{denial}
use Rattle.vx_cause.specs.Laws.{permitted, BeatenByPermitted, BeatenStillBeats, MovedAreApart, MovedShareNoCell}

module _ {X : Type 0} (test : X → Bool) where
  kept_on : (b : Bool) (y : X) (ys : List X) (x : X) → IsAmong ys x → IsAmong (cond b (y ∷ ys) ys) x
  kept_on true y ys x among = inr among
  kept_on false y ys x among = among

  -- an element that passes is kept
  kept : (xs : List X) (x : X) → IsAmong xs x → test x ≡ true → IsAmong (filter test xs) x
  kept [] x none passes = absurd none
  kept (y ∷ ys) x (inl same) passes =
      subst (λ b. IsAmong (cond b (y ∷ filter test ys) (filter test ys)) x)
      (sym (ap test same ∙ passes)) (inl same)
  kept (y ∷ ys) x (inr further) passes =
      kept_on (test y) y (filter test ys) x (kept ys x further passes)

  found_on : (b : Bool) (y : X) (ys : List X) (x : X) → test y ≡ b
      → (IsAmong (filter test ys) x → IsAmong ys x × (test x ≡ true))
      → IsAmong (cond b (y ∷ filter test ys) (filter test ys)) x
      → IsAmong (y ∷ ys) x × (test x ≡ true)
  found_on true y ys x passes later (inl same) = (inl same, sym (ap test same) ∙ passes)
  found_on true y ys x passes later (inr further) = let found = later further in (inr found.0, found.1)
  found_on false y ys x fails later further = let found = later further in (inr found.0, found.1)

  -- and what is kept is an element that passes
  from_kept : (xs : List X) (x : X) → IsAmong (filter test xs) x → IsAmong xs x × (test x ≡ true)
  from_kept [] x none = absurd none
  from_kept (y ∷ ys) x among = found_on (test y) y ys x refl (from_kept ys x) among

is_none_at : {X : Type 0} (o : Option X) → is_none o ≡ true → o ≡ None
is_none_at None none = refl
is_none_at (Some x) none = cc

-- a move that is permitted claims
claims_from : (rs : Regions) (moves : List Moving) (m : Moving) → IsAmong moves m → denial rs m ≡ None
    → IsAmong (permitted rs moves) m
claims_from rs moves m among none = kept (λ x. is_none (denial rs x)) moves m among (ap (λ o. is_none o) none)

pub beaten_by_permitted : BeatenByPermitted
beaten_by_permitted rs moves m q beaten =
    let claim = beaten.0 in
    let found = from_kept (λ x. is_none (denial rs x)) moves claim.0 claim.1 in
    (claim.0, found.0, is_none_at _ found.1, claim.2, claim.3)

pub beaten_still_beats : BeatenStillBeats
beaten_still_beats rs moves claim m by beaten among none is first shared later =
    later_is_beaten (permitted rs moves) claim m beaten (claims_from rs moves claim among none) first shared later

pub moved_are_apart : MovedAreApart
moved_are_apart rs moves a b p differ a_made b_made in_a =
    unbeaten_are_apart (permitted rs moves) a b p (claims_from rs moves a a_made.0 a_made.1)
    (claims_from rs moves b b_made.0 b_made.1) differ a_made.2 b_made.2 in_a

pub moved_share_no_cell : MovedShareNoCell
unfolding shares
moved_share_no_cell rs moves a b differ a_made b_made =
    false_from_ne_true _ (λ shared.
    let found = any_at _ b.cells shared in
    both_ways _ (moved_are_apart rs moves a b found.0 differ a_made b_made found.2) (has_from b.cells found.0 found.1))
