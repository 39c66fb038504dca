-- Positions that are added one group after another.
use Rattle.std.proofs.Common.{◌≡◌, ℕ, ◌+◌, ◌<◌, ◌≤◌, Bool, true, false, ◌&&◌, ◌||◌, nat_eq, nat_lt, nat_le, inl, inr, refl, ap, sym, ◌∙◌, arith}
use Rattle.std.proofs.lemmas.Bool.{cases_Bool, cases_lt, cases_order, and_left, and_right, or_left, or_right, or_from, eq-eqb, ne_eqb, lt-ltb, le-ltb, le-leb}
use Rattle.vx_geom.specs.declared.pos.Pos.{Pos}
use Rattle.vx_geom.specs.Sizes.{is_inside}
use Rattle.vx_places.specs.Around.{at_number, below_number, between_numbers, Adds}
use Rattle.vx_places.specs.Places.{PlacesData, is_at}

joined : (o i f g h : Bool) → (i ≡ true → (f || g) ≡ h) → ((o || (i && f)) || (i && g)) ≡ (o || (i && h))
joined true i f g h both = refl
joined false true f g h both = both refl
joined false false f g h both = refl

meant : (o i f h : Bool) → (i ≡ true → f ≡ h) → (o || (i && f)) ≡ (o || (i && h))
meant true i f h same = refl
meant false true f h same = same refl
meant false false f h same = refl

nothing : (o i h : Bool) → (i ≡ true → h ≡ false) → o ≡ (o || (i && h))
nothing true i h none = refl
nothing false true h none = sym (none refl)
nothing false false h none = refl

-- what two tests add one after the other a third adds that says what either says
pub adds_more : (f g h : Pos → Bool) (a b c : PlacesData) → Adds f a b → Adds g b c
    → ((p : Pos) → is_inside a.sizes p ≡ true → (f p || g p) ≡ h p) → Adds h a c
adds_more f g h a b c first second both = record {
  sizes = second.sizes ∙ first.sizes;
  marked = λ p. second.marked p
      ∙ (λ i. first.marked p i || (is_inside (first.sizes i) p && g p))
      ∙ joined (is_at a p) (is_inside a.sizes p) (f p) (g p) (h p) (both p);
}

-- a test adds what another adds that says the same in the world
pub adds_same : (f h : Pos → Bool) (a b : PlacesData) → Adds f a b
    → ((p : Pos) → is_inside a.sizes p ≡ true → f p ≡ h p) → Adds h a b
adds_same f h a b first same = record {
  sizes = first.sizes;
  marked = λ p. first.marked p ∙ meant (is_at a p) (is_inside a.sizes p) (f p) (h p) (same p);
}

-- a test that nothing passes adds nothing
pub adds_none : (h : Pos → Bool) (a : PlacesData)
    → ((p : Pos) → is_inside a.sizes p ≡ true → h p ≡ false) → Adds h a a
adds_none h a none = record {
  sizes = refl;
  marked = λ p. nothing (is_at a p) (is_inside a.sizes p) (h p) (none p);
}

one_further : (t : Bool) (m n : ℕ) → ((t && nat_lt m n) || (t && nat_eq m n)) ≡ (t && nat_lt m (n + 1))
one_further false m n = refl
one_further true m n = elim (cases_order m n) [
  | inl same ↦ or_right _ _ (eq-eqb m n same) ∙ sym (lt-ltb m (n + 1) (omega arith))
  | inr apart ↦ elim apart [
    | inl less ↦ or_left _ _ (lt-ltb m n less) ∙ sym (lt-ltb m (n + 1) (omega arith))
    | inr more ↦
        let other : m ≡ n → ⊥ = λ same. omega arith in
        or_from _ _ (le-ltb m n (omega arith)) (ne_eqb m n other) ∙ sym (le-ltb m (n + 1) (omega arith))
  ]
]

more_further : (t : Bool) (k m n : ℕ) → m ≤ n
    → ((t && nat_lt k m) || (t && (nat_le m k && nat_lt k n))) ≡ (t && nat_lt k n)
more_further false k m n above = refl
more_further true k m n above = elim (cases_lt k m) [
  | inl less ↦ or_left _ _ (lt-ltb k m less) ∙ sym (lt-ltb k n (omega arith))
  | inr least ↦ (λ i. le-ltb k m least i || (le-leb m k least i && nat_lt k n))
]

-- what passes a test, added by its numbers one after another
module _ (number : Pos → ℕ) (test : Pos → Bool) (a : PlacesData) where
  -- none has a number below the least
  pub none_below : (first : ℕ)
      → ((p : Pos) → is_inside a.sizes p ≡ true → test p ≡ true → first ≤ number p)
      → Adds (below_number number test first) a a
  none_below first least = adds_none (below_number number test first) a
      (λ p inside. elim (cases_Bool (test p)) [
        | inl passes ↦ and_right _ _ (le-ltb (number p) first (least p inside passes))
        | inr fails ↦ and_left _ _ fails
      ])

  -- those of one number more
  pub one_number : (n : ℕ) (b c : PlacesData) → Adds (below_number number test n) a b
      → Adds (at_number number test n) b c → Adds (below_number number test (n + 1)) a c
  one_number n b c first second =
      adds_more (below_number number test n) (at_number number test n) (below_number number test (n + 1)) a b c
      first second (λ p _. one_further (test p) (number p) n)

  -- those of all numbers up to below another
  pub more_numbers : (m n : ℕ) (b c : PlacesData) → m ≤ n → Adds (below_number number test m) a b
      → Adds (between_numbers number test m n) b c → Adds (below_number number test n) a c
  more_numbers m n b c above first second =
      adds_more (below_number number test m) (between_numbers number test m n) (below_number number test n) a b c
      first second (λ p _. more_further (test p) (number p) m n above)

  -- where all have lesser numbers all are added
  pub all_numbers : (end : ℕ) (b : PlacesData) → Adds (below_number number test end) a b
      → ((p : Pos) → is_inside a.sizes p ≡ true → test p ≡ true → number p < end) → Adds test a b
  all_numbers end b first less = adds_same (below_number number test end) test a b first
      (λ p inside. elim (cases_Bool (test p)) [
        | inl passes ↦
            ap (λ t. t && nat_lt (number p) end) passes ∙ lt-ltb (number p) end (less p inside passes) ∙ sym passes
        | inr fails ↦ and_left _ _ fails ∙ sym fails
      ])
