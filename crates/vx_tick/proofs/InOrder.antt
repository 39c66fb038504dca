-- Moves in the order of positions: there is one such order.
use Rattle.std.proofs.Common.{◌≡◌, ℕ, zero, suc, ◌<◌, Bool, true, false, List, [], ◌∷◌, length, get_or, set, inl, inr, refl, sym, ap, ◌∙◌, subst, arith, add-one, IsPermutation, is_lt}
use Rattle.std.specs.Bool.{⊤}
use Rattle.std.specs.List.{AllByRecursion, swap}
use Rattle.std.specs.List.Sorted.{IsSortedByKey}
use Rattle.std.proofs.lemmas.Bool.{cases_Bool, false≢true}
use Rattle.std.proofs.lemmas.List.Sorted.{IsPermutation-keeps, IsPermutation-refl, IsPermutation-cons, IsPermutation-trans, IsPermutation-middle}
use Rattle.vx_geom.specs.declared.pos.Pos.{Pos}
use Rattle.vx_geom.specs.Order.{comes_before, compared}
use Rattle.vx_geom.proofs.OrderLemmas.{positions_ordered}
use Rattle.vx_piston.specs.Moves.{Moving}
use Rattle.vx_piston.proofs.Firsts.{not_back, one_place}
use Rattle.vx_tick.specs.Ticks.{inserted, ordered}

abbrev first : Moving → Moving → Bool
first a b = comes_before a.at b.at

-- the later of two first, and then the other, or the other way round
insert_two : (a b : Moving) (ms : List Moving) → first a b ≡ true
    → inserted a (inserted b ms) ≡ inserted b (inserted a ms)
insert_two a b [] less = rw (less, not_back a.at b.at less) refl
insert_two a b (n ∷ ns) less = elim (cases_Bool (first n a)) [
  | inl n_a ↦
      let n_b = positions_ordered.transitive n.at a.at b.at n_a less in
      rw (n_b, n_a) (rw n_b (ap (λ ms. n ∷ ms) (insert_two a b ns less)))
  | inr a_n ↦ elim (cases_Bool (first n b)) [
    | inl n_b ↦ rw (n_b, a_n) (rw less (rw n_b refl))
    | inr b_n ↦ rw (b_n, a_n) (rw (less, not_back a.at b.at less) (rw b_n refl))
  ]
]

-- moves of which those of one piston are one
module _ (P : Moving → Type 0) (alone : (a b : Moving) → P a → P b → a.at ≡ b.at → a ≡ b) where
  swapped : (a b : Moving) (ms : List Moving) → P a → P b
      → inserted a (inserted b ms) ≡ inserted b (inserted a ms)
  swapped a b ms of_a of_b = elim (cases_Bool (first a b)) [
    | inl less ↦ insert_two a b ms less
    | inr no_less ↦ elim (cases_Bool (first b a)) [
      | inl more ↦ sym (insert_two b a ms more)
      | inr no_more ↦
          let same = alone a b of_a of_b (one_place a.at b.at no_less no_more) in
          subst (λ x. inserted a (inserted x ms) ≡ inserted x (inserted a ms)) same refl
    ]
  ]

  element : (ms : List Moving) (i : ℕ) (d : Moving) → i < length ms → AllByRecursion P ms → P (get_or ms i d)
  element [] i d low all = absurd (omega arith)
  element (m ∷ ms) zero d low all = all.0
  element (m ∷ ms) (suc i) d low all = element ms i d (omega arith) all.1

  all_set : (ms : List Moving) (i : ℕ) (m : Moving) → AllByRecursion P ms → P m → AllByRecursion P (set ms i m)
  all_set [] i m all of_m = tt
  all_set (n ∷ ms) zero m all of_m = (of_m, all.1)
  all_set (n ∷ ms) (suc i) m all of_m = (all.0, all_set ms i m all.1 of_m)

  -- another in the place of one, and that one besides
  set_first : (ms : List Moving) (i : ℕ) (d x : Moving) → i < length ms → P x → AllByRecursion P ms
      → inserted (get_or ms i d) (ordered (set ms i x)) ≡ inserted x (ordered ms)
  set_first [] i d x low of_x all = absurd (omega arith)
  set_first (m ∷ ms) zero d x low of_x all = swapped m x (ordered ms) all.0 of_x
  set_first (m ∷ ms) (suc i) d x low of_x all =
      swapped (get_or ms i d) m (ordered (set ms i x)) (element ms i d (omega arith) all.1) all.0
      ∙ ap (inserted m) (set_first ms i d x (omega arith) of_x all.1)
      ∙ swapped m x (ordered ms) all.0 of_x

  -- two that change places
  swap_two : (ms : List Moving) (i j : ℕ) (d : Moving) → i < length ms → j < length ms → AllByRecursion P ms
      → ordered (set (set ms i (get_or ms j d)) j (get_or ms i d)) ≡ ordered ms
  swap_two [] i j d low high all = absurd (omega arith)
  swap_two (m ∷ ms) zero zero d low high all = refl
  swap_two (m ∷ ms) zero (suc j) d low high all = set_first ms j d m (omega arith) all.0 all.1
  swap_two (m ∷ ms) (suc i) zero d low high all = set_first ms i d m (omega arith) all.0 all.1
  swap_two (m ∷ ms) (suc i) (suc j) d low high all =
      ap (inserted m) (swap_two ms i j d (omega arith) (omega arith) all.1)

  swap_same : (ms : List Moving) (i j : ℕ) → i < length ms → j < length ms → AllByRecursion P ms
      → AllByRecursion P (swap ms i j) × (ordered (swap ms i j) ≡ ordered ms)
  swap_same [] i j low high all = absurd (omega arith)
  swap_same (d ∷ ms) i j low high all =
      let of_i = element (d ∷ ms) i d low all in
      let of_j = element (d ∷ ms) j d high all in (
        all_set _ j (get_or (d ∷ ms) i d) (all_set (d ∷ ms) i (get_or (d ∷ ms) j d) all of_j) of_i,
        swap_two (d ∷ ms) i j d low high all,
      )

  -- so moves in another order are ordered as these
  pub ordered_same : (ms ns : List Moving) → IsPermutation ms ns → AllByRecursion P ms → ordered ns ≡ ordered ms
  ordered_same ms ns permuted all =
      (IsPermutation-keeps ms (λ l. AllByRecursion P l × (ordered l ≡ ordered ms)) (all, refl)
      (λ l i j p q known.
      let next = swap_same l i j p q known.0 in
      (next.0, next.1 ∙ known.1)) ns permuted).1

-- what is in order comes out as it is
pub not_less : (p q : Pos) → is_lt (compared p q) ≡ false → comes_before p q ≡ false
not_less p q is = elim (cases_Bool (comes_before p q)) [
  | inl less ↦ absurd (false≢true (sym (rw less at is)))
  | inr no_less ↦ no_less
]

pub in_order : (ms : List Moving) → IsSortedByKey (λ (m : Moving). m.at) compared ms → ordered ms ≡ ms
in_order [] sorted = refl
in_order (m ∷ []) sorted = refl
in_order (m ∷ n ∷ ms) sorted =
    let rest : IsSortedByKey (λ (m : Moving). m.at) compared (n ∷ ms) =
    λ k d p q. rw add-one (rw add-one at (sorted (suc k) d (omega arith) (omega arith))) in
    let first_two = not_less n.at m.at (sorted 0 m (omega arith) (omega arith)) in
    ap (inserted m) (in_order (n ∷ ms) rest) ∙ rw first_two refl

-- each before the next, or of its place
abbrev pub IsNotBehind : Moving → List Moving → Type 0
IsNotBehind m [] = ⊤
IsNotBehind m (n ∷ ms) = comes_before n.at m.at ≡ false

abbrev pub Ascend : List Moving → Type 0
Ascend [] = ⊤
Ascend (m ∷ ms) = IsNotBehind m ms × Ascend ms

behind_none : (n m : Moving) (ms : List Moving) → comes_before m.at n.at ≡ false → IsNotBehind n ms
    → IsNotBehind n (inserted m ms)
behind_none n m [] less is = less
behind_none n m (x ∷ ms) less is = elim (cases_Bool (first x m)) [
  | inl before ↦ rw before is
  | inr behind ↦ rw behind less
]

insert_ascends : (m : Moving) (ms : List Moving) → Ascend ms → Ascend (inserted m ms)
insert_ascends m [] up = (tt, tt)
insert_ascends m (n ∷ ms) up = elim (cases_Bool (first n m)) [
  | inl before ↦
      rw before
      (behind_none n m ms (not_back n.at m.at before) up.0, insert_ascends m ms up.1)
  | inr behind ↦ rw behind (behind, up)
]

ascends : (ms : List Moving) → Ascend (ordered ms)
ascends [] = tt
ascends (m ∷ ms) = insert_ascends m (ordered ms) (ascends ms)

less_not : (p q : Pos) → comes_before p q ≡ false → is_lt (compared p q) ≡ false
less_not p q no_less = elim (cases_Bool (comes_before q p)) [
  | inl more ↦ rw (no_less, more) refl
  | inr no_more ↦ rw (no_less, no_more) refl
]

sorted_cons : (m n : Moving) (ms : List Moving) → comes_before n.at m.at ≡ false
    → IsSortedByKey (λ (m : Moving). m.at) compared (n ∷ ms)
    → IsSortedByKey (λ (m : Moving). m.at) compared (m ∷ n ∷ ms)
sorted_cons m n ms behind sorted zero d p q = less_not n.at m.at behind
sorted_cons m n ms behind sorted (suc k) d p q =
    rw add-one (rw add-one at (sorted k d (omega arith) (omega arith)))

pub sorted_from : (ms : List Moving) → Ascend ms → IsSortedByKey (λ (m : Moving). m.at) compared ms
sorted_from [] up = λ k d p q. absurd (omega arith)
sorted_from (m ∷ []) up = λ k d p q. absurd (omega arith)
sorted_from (m ∷ n ∷ ms) up = sorted_cons m n ms up.0 (sorted_from (n ∷ ms) up.1)

pub ordered_sorted : (ms : List Moving) → IsSortedByKey (λ (m : Moving). m.at) compared (ordered ms)
ordered_sorted ms = sorted_from (ordered ms) (ascends ms)

insert_permutes : (m : Moving) (ms : List Moving) → IsPermutation (m ∷ ms) (inserted m ms)
insert_permutes m [] = IsPermutation-refl (m ∷ [])
insert_permutes m (n ∷ ms) = elim (cases_Bool (first n m)) [
  | inl before ↦
      rw before
      (IsPermutation-trans (m ∷ n ∷ ms) (n ∷ m ∷ ms) (n ∷ inserted m ms) (IsPermutation-middle (m ∷ []) n ms)
      (IsPermutation-cons n (m ∷ ms) (inserted m ms) (insert_permutes m ms)))
  | inr behind ↦ rw behind (IsPermutation-refl (m ∷ n ∷ ms))
]

pub ordered_permutes : (ms : List Moving) → IsPermutation ms (ordered ms)
ordered_permutes [] = IsPermutation-refl []
ordered_permutes (m ∷ ms) =
    IsPermutation-trans (m ∷ ms) (m ∷ ordered ms) (inserted m (ordered ms))
    (IsPermutation-cons m ms (ordered ms) (ordered_permutes ms)) (insert_permutes m (ordered ms))
