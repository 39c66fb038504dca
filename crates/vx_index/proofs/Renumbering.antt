-- The numbers of a tile after the shape of a number became another or is gone.
use Rattle.std.proofs.Common.{◌≡◌, inl, inr, ℕ, suc, ◌+◌, ◌<◌, ◌≤◌, Bool, true, false, ◌&&◌, not, if◌then◌else◌, nat_eq, nat_lt, List, [], ◌∷◌, ◌++◌, length, filter, ltb, Contains, Option, refl, ap, sym, ◌∙◌, subst, arith}
use Rattle.std.specs.List.{All, AllByRecursion, AllPairs}
use Rattle.std.specs.List.Sorted.{IsStrictlyIncreasing}
use Rattle.std.proofs.lemmas.Bool.{and_from, and_parts, both_ways, eq-eqb, eqb-true, lt-ltb, lt-leb, ltb-true, not-true, or_cases, or_left, or_right}
use Rattle.std.proofs.lemmas.List.{append-nil, length-append}
use Rattle.std.proofs.lemmas.List.Elements.{All-append, All-cons, All-contains, All-contains_itself, All-filter, All-head, All-nil, All-tail, All-weaker, Contains-append_cases, Contains-append_left, Contains-append_right, Contains-push, filter_passes}
use Rattle.std.proofs.lemmas.List.Folds.{list_any-append}
use Rattle.std.proofs.lemmas.List.Kept.{AllPairs-cons, AllPairs-filter, AllPairs-from_increasing}
use Rattle.std.proofs.lemmas.List.Sorted.{Contains-permutation, IsPermutation-filter_both}
use Rattle.std.proofs.lemmas.Map.Views.{any-filter_same}
use Rattle.vx_geom.specs.declared.extent.Extent.{Extent}
use Rattle.vx_geom.specs.Outline.{Outline}
use Rattle.vx_index.specs.declared.patch.Patch.{Patch}
use Rattle.vx_index.specs.Patches.{has_number, AreNumbersOf, AddsAny}
use Rattle.vx_index.proofs.Listed.{of_number}
use Rattle.vx_index.proofs.Renewing.{is_before, is_behind, parted}

-- what is kept of numbers is what passes of them
in_filter : (p : ℕ → Bool) (ms : List ℕ) (m : ℕ) → Contains ms m → p m ≡ true → Contains (filter p ms) m
in_filter p ms m there passes =
    let others : ℕ → Bool = λ k. not (p k) in
    elim (Contains-append_cases (filter p ms) (filter others ms) m
    (Contains-permutation ms (filter p ms ++ filter others ms) m (IsPermutation-filter_both p others (λ k. refl) ms) there)) [
      | inl kept ↦ kept
      | inr left ↦ absurd (both_ways (p m) (not-true (p m) (All-contains (λ k. others k ≡ true) (filter others ms) m (filter_passes others ms) left)) passes)
    ]

out_of_filter : (p : ℕ → Bool) (ms : List ℕ) (m : ℕ) → Contains (filter p ms) m → Contains ms m × (p m ≡ true)
out_of_filter p ms m there = (
  All-contains (Contains ms) (filter p ms) m (All-filter p (Contains ms) ms (All-contains_itself ms)) there,
  All-contains (λ k. p k ≡ true) (filter p ms) m (filter_passes p ms) there,
)

-- the numbers from 1 on of these patches, in whatever order, and none but theirs
record Name (patches : List Patch) (numbers : List ℕ) : Type 0 where
  whole : (m : ℕ) → 0 < m → has_number patches m ≡ true → Contains numbers m
  own : (m : ℕ) → Contains numbers m → has_number patches m ≡ true

-- those of joined patches
names_join : (xs ys : List Patch) (ms ns : List ℕ) → Name xs ms → Name ys ns → Name (xs ++ ys) (ms ++ ns)
names_join xs ys ms ns left right = record {
  whole = λ m above has. elim (or_cases (has_number xs m) (has_number ys m) (sym (list_any-append (λ d. nat_eq m d.number) xs ys) ∙ has)) [
    | inl before ↦ Contains-append_left ms ns m (left.whole m above before)
    | inr behind ↦ Contains-append_right ms ns m (right.whole m above behind)
  ];
  own = λ m there. list_any-append (λ d. nat_eq m d.number) xs ys ∙ elim (Contains-append_cases ms ns m there) [
    | inl before ↦ or_left (has_number xs m) (has_number ys m) (left.own m before)
    | inr behind ↦ or_right (has_number xs m) (has_number ys m) (right.own m behind)
  ];
}

-- those of the patches that are kept by their numbers
names_kept : (p : ℕ → Bool) (patches : List Patch) (numbers : List ℕ) → Name patches numbers → Name (filter (λ d. p d.number) patches) (filter p numbers)
names_kept p patches numbers name = record {
  whole = λ m above has.
      let both = and_parts (p m) (has_number patches m) (sym (kept m) ∙ has) in
      in_filter p numbers m (name.whole m above both.1) both.0;
  own = λ m there.
      let both = out_of_filter p numbers m there in
      kept m ∙ and_from (p m) (has_number patches m) both.1 (name.own m both.0);
}
  where
    kept : (m : ℕ) → has_number (filter (λ d. p d.number) patches) m ≡ (p m && has_number patches m)
    kept m = any-filter_same (λ d. nat_eq m d.number) (λ d. p d.number) (p m) (λ d same. ap p (sym (eqb-true m d.number same))) patches

-- one number or none
one_number : (n : ℕ) (some : Bool) → All (λ m. m ≡ n) (if some then n ∷ [] else [])
one_number n true = All-cons (λ m. m ≡ n) n [] refl (All-nil (λ m. m ≡ n))
one_number n false = All-nil (λ m. m ≡ n)

one_rises : (n : ℕ) (some : Bool) → AllPairs (λ a b. a < b) (if some then n ∷ [] else [])
one_rises n true = λ i j d first within. absurd (omega (arith, first, within))
one_rises n false = λ i j d first within. absurd (omega (arith, within))

-- those of patches of one number, of which there are perhaps none
names_one : (n : ℕ) (added : List Patch) (some : Bool) → AllByRecursion (λ d. d.number ≡ n) added → has_number added n ≡ some
    → Name added (if some then n ∷ [] else [])
names_one n added true own has = record {
  whole = λ m above here. subst (Contains (n ∷ [])) (sym (of_number (λ k. k ≡ n) m added own here)) (Contains-push [] n);
  own = λ m there. subst (λ k. has_number added k ≡ true) (sym (All-contains (λ k. k ≡ n) (n ∷ []) m (one_number n true) there)) has;
}
names_one n added false own has = record {
  whole = λ m above here.
      absurd (both_ways (has_number added n) has (subst (λ k. has_number added k ≡ true) (of_number (λ k. k ≡ n) m added own here) here));
  own = λ m there. absurd (omega (arith, there.1));
}

-- numbers that rise before others that do, where all of these are higher
pairs_join : (P Q : ℕ → Type 0) → ((m n : ℕ) → P m → Q n → m < n) → (ms ns : List ℕ) → All P ms → All Q ns → AllPairs (λ m n. m < n) ms
    → AllPairs (λ m n. m < n) ns → AllPairs (λ m n. m < n) (ms ++ ns)
pairs_join P Q tells [] ns low high left right = right
pairs_join P Q tells (m ∷ ms) ns low high left right =
    AllPairs-cons (λ a b. a < b) m (ms ++ ns)
    (All-append (λ b. m < b) ms ns (λ k d within. left 0 (suc k) d (omega arith) (omega arith))
    (All-weaker Q (λ b. m < b) (λ b. tells m b (All-head P m ms low)) ns high))
    (pairs_join P Q tells ms ns (All-tail P m ms low) high (λ i j d first within. left (suc i) (suc j) d (omega arith) (omega arith)) right)

-- the numbers before one, that one where some patch has it, and those behind it
renumbered : (n : ℕ) (old added : List Patch) (numbers : List ℕ) (some : Bool) → AreNumbersOf (λ d. true) old numbers
    → AllByRecursion (λ d. d.number ≡ n) added → has_number added n ≡ some
    → AreNumbersOf (λ d. true) ((filter (is_before n) old ++ added) ++ filter (is_behind n) old)
    ((filter (λ m. nat_lt m n) numbers ++ (if some then n ∷ [] else [])) ++ filter (λ m. nat_lt n m) numbers)
renumbered n old added numbers some of own has = record {
  ascending = λ k within. rises k (k + 1) 0 (omega arith) within;
  whole = names.whole;
  own = names.own;
}
  where
    front : List ℕ
    front = filter (λ m. nat_lt m n) numbers

    back : List ℕ
    back = filter (λ m. nat_lt n m) numbers

    this : List ℕ
    this = if some then n ∷ [] else []

    all_rise : AllPairs (λ a b. a < b) numbers
    all_rise = AllPairs-from_increasing numbers of.ascending

    front_low : All (λ m. m < n) front
    front_low = All-weaker (λ m. nat_lt m n ≡ true) (λ m. m < n) (λ m. ltb-true m n) front (filter_passes (λ m. nat_lt m n) numbers)

    back_high : All (λ m. n < m) back
    back_high = All-weaker (λ m. nat_lt n m ≡ true) (λ m. n < m) (λ m. ltb-true n m) back (filter_passes (λ m. nat_lt n m) numbers)

    none_later : All (λ m. m ≤ n) (front ++ this)
    none_later =
        All-append (λ m. m ≤ n) front this (All-weaker (λ m. m < n) (λ m. m ≤ n) (λ m low. omega (arith, low)) front front_low)
        (All-weaker (λ m. m ≡ n) (λ m. m ≤ n) (λ m same. omega (arith, same)) this (one_number n some))

    rises : AllPairs (λ a b. a < b) ((front ++ this) ++ back)
    rises =
        pairs_join (λ m. m ≤ n) (λ m. n < m) (λ a b low high. omega (arith, low, high)) (front ++ this) back none_later back_high
        (pairs_join (λ m. m < n) (λ m. m ≡ n) (λ a b low same. omega (arith, low, same)) front this front_low (one_number n some)
        (AllPairs-filter (λ a b. a < b) (λ m. nat_lt m n) numbers all_rise) (one_rises n some))
        (AllPairs-filter (λ a b. a < b) (λ m. nat_lt n m) numbers all_rise)

    before : Name old numbers
    before = record { whole = of.whole; own = of.own }

    names : Name ((filter (is_before n) old ++ added) ++ filter (is_behind n) old) ((front ++ this) ++ back)
    names =
        names_join (filter (is_before n) old ++ added) (filter (is_behind n) old) (front ++ this) back
        (names_join (filter (is_before n) old) added front this (names_kept (λ m. nat_lt m n) old numbers before) (names_one n added some own has))
        (names_kept (λ m. nat_lt n m) old numbers before)

-- where there are more patches than before some are of the number
some_added : (n : ℕ) (low mid added : List Patch) → mid ≡ low ++ added → AllByRecursion (λ d. d.number ≡ n) added
    → has_number added n ≡ ltb (length low) (length mid)
some_added n low mid [] after own = sym (lt-leb _ _ (omega (arith, ap length (after ∙ append-nil low))))
some_added n low mid (d ∷ ds) after own =
    or_left (nat_eq n d.number) (has_number ds n) (eq-eqb n d.number (sym own.0))
    ∙ sym (lt-ltb (length low) (length mid) (omega (arith, ap length after, length-append low (d ∷ ds))))

-- so these are the numbers of the patches then
pub renumbered_tells : (columns : Extent) (n : ℕ) (o : Option Outline) (old low mid new : List Patch) (numbers given after : List ℕ) (some : Bool)
    → AreNumbersOf (λ d. true) old numbers → low ≡ filter (is_before n) old → AddsAny n o columns low mid → new ≡ mid ++ filter (is_behind n) old
    → given ≡ numbers → some ≡ ltb (length low) (length mid)
    → (IsStrictlyIncreasing given → after ≡ (filter (λ m. nat_lt m n) given ++ (if some then n ∷ [] else [])) ++ filter (λ m. nat_lt n m) given)
    → AreNumbersOf (λ d. true) new after
renumbered_tells columns n o old low mid new numbers given after some of is_low adds is_new same more is_after =
    subst (λ ds. AreNumbersOf (λ d. true) ds after) (sym (parted n o columns old low mid new is_low adds is_new))
    (subst (AreNumbersOf (λ d. true) ((filter (is_before n) old ++ adds.added) ++ filter (is_behind n) old))
    (sym (subst (λ ms. IsStrictlyIncreasing ms → after ≡ (filter (λ m. nat_lt m n) ms ++ (if some then n ∷ [] else [])) ++ filter (λ m. nat_lt n m) ms)
    same is_after of.ascending))
    (renumbered n old adds.added numbers some of adds.own (some_added n low mid adds.added adds.after adds.own ∙ sym more)))
