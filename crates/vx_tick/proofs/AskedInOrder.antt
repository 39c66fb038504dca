-- What pistons ask for, one after another in the order of their positions, is in that order.
use Rattle.std.proofs.Common.{◌≡◌, ℕ, zero, suc, ◌<◌, true, false, List, [], ◌∷◌, length, get_or, set, Option, None, Some, inl, inr, refl, sym, ◌∙◌, subst, arith, add-one, IsPermutation, is_lt}
use Rattle.std.specs.Bool.{⊤}
use Rattle.std.specs.List.{AllByRecursion, swap}
use Rattle.std.specs.List.Sorted.{IsSortedBy}
use Rattle.std.proofs.lemmas.Bool.{cases_Bool, false≢true}
use Rattle.std.proofs.lemmas.List.Sorted.{IsPermutation-keeps, IsPermutation-refl, IsPermutation-sym, IsPermutation-cons, IsPermutation-trans, IsPermutation-middle}
use Rattle.vx_cells.specs.Maps.{MapData}
use Rattle.vx_geom.specs.declared.pos.Pos.{Pos}
use Rattle.vx_geom.specs.Order.{comes_before, compared}
use Rattle.vx_geom.proofs.OrderLemmas.{positions_ordered}
use Rattle.vx_piston.specs.Moves.{Moving, candidate}
use Rattle.vx_piston.proofs.Firsts.{one_place}
use Rattle.vx_piston.proofs.MoveLaws.{begins}
use Rattle.vx_tick.specs.Ticks.{asked, asked_before, AreInOrder}
use Rattle.vx_tick.proofs.InOrder.{Ascend, IsNotBehind, not_less, sorted_from}

-- what two ask for, the other one first
two_asked : (x y : Option Moving) (ms : List Moving)
    → IsPermutation (asked_before x (asked_before y ms)) (asked_before y (asked_before x ms))
two_asked None y ms = IsPermutation-refl (asked_before y ms)
two_asked (Some a) None ms = IsPermutation-refl (a ∷ ms)
two_asked (Some a) (Some b) ms = IsPermutation-middle (a ∷ []) b ms

-- what one asks for, before others in another order
one_asked : (x : Option Moving) (ms ns : List Moving) → IsPermutation ms ns
    → IsPermutation (asked_before x ms) (asked_before x ns)
one_asked None ms ns same = same
one_asked (Some a) ms ns same = IsPermutation-cons a ms ns same

-- where p is not behind q, nor q behind r, p is not behind r
not_behind : (p q r : Pos) → comes_before q p ≡ false → comes_before r q ≡ false → comes_before r p ≡ false
not_behind p q r first then = elim (cases_Bool (comes_before r p)) [
  | inl less ↦ elim (cases_Bool (comes_before p q)) [
    | inl before ↦ absurd (false≢true (sym then ∙ positions_ordered.transitive r p q less before))
    | inr no_before ↦
        let same : p ≡ q = one_place p q no_before first in
        absurd (false≢true (sym then ∙ subst (λ s. comes_before r s ≡ true) same less))
  ]
  | inr no_less ↦ no_less
]

-- positions of which none is before an earlier one
abbrev Rise : List Pos → Type 0
Rise [] = ⊤
Rise (p ∷ ps) = AllByRecursion (λ q. comes_before q p ≡ false) ps × Rise ps

all_behind : (p q : Pos) (ps : List Pos) → comes_before q p ≡ false
    → AllByRecursion (λ r. comes_before r q ≡ false) ps → AllByRecursion (λ r. comes_before r p ≡ false) ps
all_behind p q [] first all = tt
all_behind p q (r ∷ ps) first all = (not_behind p q r first all.0, all_behind p q ps first all.1)

-- so they are when they are sorted
rise : (ps : List Pos) → IsSortedBy (λ p q. is_lt (compared p q)) ps → Rise ps
rise [] sorted = tt
rise (p ∷ []) sorted = (tt, tt)
rise (p ∷ q ∷ ps) sorted =
    let rest : IsSortedBy (λ p q. is_lt (compared p q)) (q ∷ ps) =
    λ k d least within. rw add-one (rw add-one at (sorted (suc k) d (omega arith) (omega arith))) in
    let first = not_less q p (sorted 0 p (omega arith) (omega arith)) in
    let risen = rise (q ∷ ps) rest in
    ((first, all_behind p q ps first risen.0), risen)

module _ (m : MapData) (level : Pos → ℕ) where
  -- another in the place of one, and that one besides
  set_asked : (ps : List Pos) (i : ℕ) (d x : Pos) → i < length ps
      → IsPermutation (asked_before (candidate m level (get_or ps i d)) (asked m level (set ps i x)))
      (asked_before (candidate m level x) (asked m level ps))
  set_asked [] i d x low = absurd (omega arith)
  set_asked (p ∷ ps) zero d x low = two_asked (candidate m level p) (candidate m level x) (asked m level ps)
  set_asked (p ∷ ps) (suc i) d x low =
      IsPermutation-trans _ _ _
      (two_asked (candidate m level (get_or ps i d)) (candidate m level p) (asked m level (set ps i x)))
      (IsPermutation-trans _ _ _ (one_asked (candidate m level p) _ _ (set_asked ps i d x (omega arith)))
      (two_asked (candidate m level p) (candidate m level x) (asked m level ps)))

  -- two that change places
  swap_asked : (ps : List Pos) (i j : ℕ) (d : Pos) → i < length ps → j < length ps
      → IsPermutation (asked m level (set (set ps i (get_or ps j d)) j (get_or ps i d))) (asked m level ps)
  swap_asked [] i j d low high = absurd (omega arith)
  swap_asked (p ∷ ps) zero zero d low high = IsPermutation-refl (asked m level (p ∷ ps))
  swap_asked (p ∷ ps) zero (suc j) d low high = set_asked ps j d p (omega arith)
  swap_asked (p ∷ ps) (suc i) zero d low high = set_asked ps i d p (omega arith)
  swap_asked (p ∷ ps) (suc i) (suc j) d low high =
      one_asked (candidate m level p) _ _ (swap_asked ps i j d (omega arith) (omega arith))

  swapped : (ps : List Pos) (i j : ℕ) → i < length ps → j < length ps
      → IsPermutation (asked m level (swap ps i j)) (asked m level ps)
  swapped [] i j low high = absurd (omega arith)
  swapped (d ∷ ps) i j low high = swap_asked (d ∷ ps) i j d low high

  -- pistons in another order ask for the same, in another order
  pub asked_permutes : (ps qs : List Pos) → IsPermutation ps qs → IsPermutation (asked m level ps) (asked m level qs)
  asked_permutes ps qs permuted =
      IsPermutation-sym _ _
      (IsPermutation-keeps ps (λ l. IsPermutation (asked m level l) (asked m level ps)) (IsPermutation-refl (asked m level ps))
      (λ l i j low high known. IsPermutation-trans _ _ _ (swapped l i j low high) known) qs permuted)

  -- what those ask for that are not before a move is not before it
  asked_behind : (n : Moving) (ps : List Pos) → AllByRecursion (λ q. comes_before q n.at ≡ false) ps
      → IsNotBehind n (asked m level ps)
  asked_behind n [] all = tt
  asked_behind n (p ∷ ps) all = go (asked_behind n ps all.1) (candidate m level p) refl
    where
      go : IsNotBehind n (asked m level ps) → (o : Option Moving) → candidate m level p ≡ o
          → IsNotBehind n (asked_before o (asked m level ps))
      go others None is = others
      go others (Some move) is = subst (λ q. comes_before q n.at ≡ false) (sym (begins m level p move is).0) all.0

  asked_ascend : (ps : List Pos) → Rise ps → Ascend (asked m level ps)
  asked_ascend [] risen = tt
  asked_ascend (p ∷ ps) risen = go (asked_ascend ps risen.1) (candidate m level p) refl
    where
      go : Ascend (asked m level ps) → (o : Option Moving) → candidate m level p ≡ o
          → Ascend (asked_before o (asked m level ps))
      go others None is = others
      go others (Some move) is =
          let here = sym (begins m level p move is).0 in
          (asked_behind move ps (subst (λ q. AllByRecursion (λ r. comes_before r q ≡ false) ps) here risen.0), others)

  -- what sorted ones ask for is in order, and all that they ask for in any other order
  pub asked_in_order : (ps qs : List Pos) → IsPermutation ps qs → IsSortedBy (λ p q. is_lt (compared p q)) qs
      → AreInOrder (asked m level ps) (asked m level qs)
  asked_in_order ps qs permuted sorted = record {
    all = asked_permutes ps qs permuted;
    ordered = sorted_from (asked m level qs) (asked_ascend qs (rise qs sorted));
  }
