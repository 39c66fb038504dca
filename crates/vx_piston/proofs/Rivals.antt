-- The first of the claims that a move meets in its cells.
use Rattle.std.proofs.Common.{◌≡◌, ℕ, ◌+◌, ◌<◌, Bool, true, false, List, [], ◌∷◌, take, length, get_or, Option, None, Some, inl, inr, refl, sym, ap, ◌∙◌, subst, if◌then◌else◌}
use Rattle.std.specs.List.{list_any}
use Rattle.std.specs.Map.{lookup}
use Rattle.std.proofs.lemmas.Bool.{and_parts, and_from, both_ways, cases_Bool, or_cases, or_left, or_right, false_from_ne_true}
use Rattle.std.proofs.lemmas.List.Folds.{list_any_more}
use Rattle.vx_geom.specs.declared.pos.Pos.{Pos}
use Rattle.vx_geom.specs.Order.{comes_before}
use Rattle.vx_geom.proofs.OrderLemmas.{positions_ordered}
use Rattle.vx_power.specs.Levels.{has, same_place}
use Rattle.vx_power.specs.Walks.{IsAmong}
use Rattle.vx_piston.specs.Claims.{shares, beats, IsBeatenBy, IsTable, first_of, first_found, before, first_such, beaten_by, claimant}
use Rattle.vx_piston.specs.Moves.{Moving}
use Rattle.vx_piston.proofs.Firsts.{IsFirst, first_same, one_first, first_either, first_before}

-- the piston at q has a claim that passes a test
abbrev pub HasSuch : (Moving → Bool) → List Moving → Pos → Type 0
HasSuch test claims q = (claim : Moving) × IsAmong claims claim × (test claim ≡ true) × (claim.at ≡ q)

-- a claim of the piston at q takes the cell
abbrev pub Wants : List Moving → Pos → Pos → Type 0
Wants claims p = HasSuch (λ claim. has claim.cells p) claims

-- a claim of the piston at q, which comes before another piston, takes one of the cells
abbrev pub Rivals : List Moving → Pos → List Pos → Pos → Type 0
Rivals claims at ps q =
    ((claim : Moving) × IsAmong claims claim × (list_any (has claim.cells) ps ≡ true) × (claim.at ≡ q))
    × (comes_before q at ≡ true)

module _ (test : Moving → Bool) where
  -- a claim that passes does with one claim more
  such_more : (claim : Moving) (claims : List Moving) (q : Pos)
      → HasSuch test claims q → HasSuch test (claim ∷ claims) q
  such_more claim claims q is = (is.0, inr is.1, is.2, is.3)

  -- the first piston with a claim that passes is the first of those that have one
  pub such_is_first : (claims : List Moving) → IsFirst (HasSuch test claims) (first_such test claims)
  such_is_first [] = λ q is. is.1
  such_is_first (claim ∷ claims) = elim (cases_Bool (test claim)) [
    | inl passes ↦
        subst (IsFirst (HasSuch test (claim ∷ claims)))
        (sym (ap (λ b. if b then first_of claim.at (first_such test claims) else first_such test claims) passes))
        (first_same (first_of claim.at (first_such test claims))
        (λ q is. elim is [
          | inl same ↦ (claim, inl refl, passes, same)
          | inr more ↦ such_more claim claims q more
        ])
        (λ q is. elim is.1 [
          | inl same ↦ inl (ap (λ m. m.at) same ∙ is.3)
          | inr more ↦ inr (is.0, more, is.2, is.3)
        ])
        (first_either (λ q. claim.at ≡ q) (HasSuch test claims) (Some claim.at) (first_such test claims) (
          refl,
          λ q same.
              subst (λ r. comes_before r claim.at ≡ false) same (positions_ordered.irreflexive claim.at),
        )
        (such_is_first claims)))
    | inr fails ↦
        subst (IsFirst (HasSuch test (claim ∷ claims)))
        (sym (ap (λ b. if b then first_of claim.at (first_such test claims) else first_such test claims) fails))
        (first_same (first_such test claims) (such_more claim claims)
        (λ q is. elim is.1 [
          | inl same ↦ absurd (both_ways _ fails (ap test same ∙ is.2))
          | inr more ↦ (is.0, more, is.2, is.3)
        ])
        (such_is_first claims))
  ]

-- the claimant is the first that wants the cell
pub claimant_is_first : (claims : List Moving) (p : Pos) → IsFirst (Wants claims p) (claimant claims p)
claimant_is_first claims p = such_is_first (λ claim. has claim.cells p) claims

-- the first with one cell more: its first claimant, where that comes before, or the first so far
pub rivals_more : (claims : List Moving) (table : List (Pos × Pos)) (at : Pos) (cells : List Pos)
    (i : ℕ) (p : Pos) (first found next : Option Pos) → i < length cells → IsTable claims table
    → IsFirst (Rivals claims at (take i cells)) first
    → found ≡ before at (lookup (same_place (get_or cells i p)) table) → next ≡ first_found found first
    → IsFirst (Rivals claims at (take (i + 1) cells)) next
rivals_more claims table at cells i p first found next inside told known found_is next_is =
    let here = get_or cells i p in
    let more = λ (m : Moving). list_any_more (has m.cells) cells i p inside in
    let claimed = next_is ∙ ap (λ o. first_found o first) (found_is ∙ ap (before at) (told here)) in
    subst (IsFirst (Rivals claims at (take (i + 1) cells))) (sym claimed)
    (first_same (first_found (before at (claimant claims here)) first)
    (λ q is. elim is [
      | inl w ↦ ((w.0.0, w.0.1, more w.0.0 ∙ or_right _ _ w.0.2, w.0.3), w.1)
      | inr r ↦ ((r.0.0, r.0.1, more r.0.0 ∙ or_left _ _ r.0.2, r.0.3), r.1)
    ])
    (λ q is. elim (or_cases _ _ (sym (more is.0.0) ∙ is.0.2)) [
      | inl further ↦ inr ((is.0.0, is.0.1, further, is.0.3), is.1)
      | inr here ↦ inl ((is.0.0, is.0.1, here, is.0.3), is.1)
    ])
    (first_either (λ q. Wants claims here q × (comes_before q at ≡ true)) (Rivals claims at (take i cells))
    (before at (claimant claims here)) first
    (first_before (Wants claims here) at (claimant claims here) (claimant_is_first claims here)) known))

-- the first of the rivals is who beats the move
pub beaten_by_first : (claims : List Moving) (m : Moving) (first : Option Pos)
    → IsFirst (Rivals claims m.at m.cells) first → IsBeatenBy claims m first
unfolding beats shares
beaten_by_first claims m None none = λ claim among.
    false_from_ne_true _ (λ is.
    let parts = and_parts (comes_before claim.at m.at) (list_any (has claim.cells) m.cells) is in
    none claim.at ((claim, among, parts.1, refl), parts.0))
beaten_by_first claims m (Some q) first = (
  (
    first.0.0.0,
    first.0.0.1,
    and_from _ _ (subst (λ r. comes_before r m.at ≡ true) (sym first.0.0.3) first.0.1) first.0.0.2,
    first.0.0.3,
  ),
  λ claim among is.
      let parts = and_parts (comes_before claim.at m.at) (list_any (has claim.cells) m.cells) is in
      first.1 claim.at ((claim, among, parts.1, refl), parts.0),
)

-- who beats a move is the first whose claim does
beaten_from : (claims : List Moving) (m : Moving) (o : Option Pos)
    → IsFirst (HasSuch (λ claim. beats claim m) claims) o → IsBeatenBy claims m o
beaten_from claims m None none = λ claim among.
    false_from_ne_true _ (λ is. none claim.at (claim, among, is, refl))
beaten_from claims m (Some q) first = (first.0, λ claim among is. first.1 claim.at (claim, among, is, refl))

first_from : (claims : List Moving) (m : Moving) (o : Option Pos)
    → IsBeatenBy claims m o → IsFirst (HasSuch (λ claim. beats claim m) claims) o
first_from claims m None none = λ q is. both_ways _ (none is.0 is.1) is.2
first_from claims m (Some q) first = (
  first.0,
  λ r is. subst (λ s. comes_before s q ≡ false) is.3 (first.1 is.0 is.1 is.2),
)

pub beaten_by_one : (claims : List Moving) (m : Moving) → IsBeatenBy claims m (beaten_by claims m)
beaten_by_one claims m = beaten_from claims m _ (such_is_first (λ claim. beats claim m) claims)

-- and it is one alone
pub beaten_by_no_other : (claims : List Moving) (m : Moving) (o : Option Pos)
    → IsBeatenBy claims m o → o ≡ beaten_by claims m
beaten_by_no_other claims m o is =
    one_first _ o (beaten_by claims m) (first_from claims m o is) (such_is_first (λ claim. beats claim m) claims)
