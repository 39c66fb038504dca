-- Pieces one after another.
use Rattle.std.proofs.Common.{◌≡◌, ℕ, suc, ◌+◌, ◌<◌, ◌≤◌, List, [], ◌∷◌, ◌++◌, length, map, slice_index_or, sym, ap, ◌∙◌, subst, arith}
use Rattle.std.specs.List.{flat_map}
use Rattle.std.proofs.lemmas.List.{append_assoc, append-nil, length-append, length-map}
use Rattle.std.proofs.lemmas.List.Concat.{flat_map-cons}
use Rattle.vx_step.specs.Shares.{AreEach, AreFromTo}

module _ {X : Type 0} (P : ℕ → X → Type 0) where
  each_joined : (k : ℕ) (xs ys : List X) → AreEach P k xs → AreEach P (k + length xs) ys
      → AreEach P k (xs ++ ys)
  each_joined k [] ys first second = subst (λ n. AreEach P n ys) (omega arith) second
  each_joined k (x ∷ xs) ys first second =
      (first.0, each_joined (suc k) xs ys first.1 (subst (λ n. AreEach P n ys) (omega arith) second))

  pub none_yet : (a : ℕ) → AreFromTo P a a []
  none_yet a = record { all = omega arith; each = tt }

  pub joined : (a b c : ℕ) (xs ys : List X) → AreFromTo P a b xs → AreFromTo P b c ys
      → AreFromTo P a c (xs ++ ys)
  joined a b c xs ys first second = record {
    all = omega (arith, length-append xs ys, first.all, second.all);
    each = each_joined a xs ys first.each
        (subst (λ n. AreEach P n ys) (sym first.all) second.each);
  }

  pub one_more : (a b : ℕ) (xs : List X) (x : X) → AreFromTo P a b xs → P b x
      → AreFromTo P a (b + 1) (xs ++ (x ∷ []))
  one_more a b xs x so_far next =
      joined a b (b + 1) xs (x ∷ []) so_far (record { all = omega arith; each = (next, tt) })

  from_indices : (k : ℕ) (xs : List X) → ((i : ℕ) (d : X) → i < length xs → P (k + i) (slice_index_or xs i d))
      → AreEach P k xs
  from_indices k [] each = tt
  from_indices k (x ∷ xs) each = (
    subst (λ n. P n x) (omega arith) (each 0 x (omega arith)),
    from_indices (suc k) xs (λ i d low. subst (λ n. P n (slice_index_or xs i d)) (omega arith) (each (suc i) d (omega (arith, low)))),
  )

  -- all that are told of by their indices
  pub by_index : (n : ℕ) (xs : List X) → length xs ≡ n
      → ((i : ℕ) (d : X) → i < n → P i (slice_index_or xs i d)) → AreFromTo P 0 n xs
  by_index n xs all each = record {
    all = omega (arith, all);
    each = from_indices 0 xs (λ i d low.
        subst (λ n. P n (slice_index_or xs i d)) (omega arith) (each i d (omega (arith, low, all))));
  }

  pub first : (a b : ℕ) (x : X) (xs : List X) → AreFromTo P a b (x ∷ xs) → P a x
  first a b x xs are = are.each.0

  pub others : (a b : ℕ) (x : X) (xs : List X) → AreFromTo P a b (x ∷ xs) → AreFromTo P (a + 1) b xs
  others a b x xs are = record {
    all = omega (arith, are.all);
    each = subst (λ n. AreEach P n xs) (omega arith) are.each.1;
  }

  pub none_left : (a b : ℕ) → AreFromTo P a b [] → a ≡ b
  none_left a b are = omega (arith, are.all)

  -- what those from number k on bring, behind what the first k brought
  each_brings : {Y : Type 0} (items : X → List Y) (upto : ℕ → List Y) (n k : ℕ) (xs : List X)
      → ((i : ℕ) (x : X) → i < n → P i x → upto (suc i) ≡ upto i ++ items x)
      → k + length xs ≤ n → AreEach P k xs → upto k ++ flat_map items xs ≡ upto (k + length xs)
  each_brings items upto n k [] next most each =
      let none : k ≡ k + 0 = omega arith in
      append-nil (upto k) ∙ ap upto none
  each_brings items upto n k (x ∷ xs) next most each =
      let more : suc k + length xs ≡ k + length (x ∷ xs) = omega arith in
      ap (λ ys. upto k ++ ys) (flat_map-cons items x xs)
      ∙ sym (append_assoc (upto k) (items x) (flat_map items xs))
      ∙ ap (λ ys. ys ++ flat_map items xs) (sym (next k x (omega (arith, most)) each.0))
      ∙ each_brings items upto n (suc k) xs next (omega (arith, most)) each.1
      ∙ ap upto more

  -- what all of those bring, one after another
  pub all_bring : {Y : Type 0} (items : X → List Y) (upto : ℕ → List Y) (n : ℕ) (xs : List X)
      → upto 0 ≡ [] → ((i : ℕ) (x : X) → i < n → P i x → upto (suc i) ≡ upto i ++ items x)
      → AreFromTo P 0 n xs → flat_map items xs ≡ upto n
  all_bring items upto n xs none next are =
      let all : 0 + length xs ≡ n = are.all in
      ap (λ ys. ys ++ flat_map items xs) (sym none)
      ∙ each_brings items upto n 0 xs next (omega (arith, all)) are.each
      ∙ ap upto all

-- each taken to another
each_mapped : {X Y : Type 0} (P : ℕ → X → Type 0) (Q : ℕ → Y → Type 0) (f : X → Y)
    → ((i : ℕ) (x : X) → P i x → Q i (f x)) → (k : ℕ) (xs : List X) → AreEach P k xs → AreEach Q k (map f xs)
each_mapped P Q f goes k [] each = tt
each_mapped P Q f goes k (x ∷ xs) each = (goes k x each.0, each_mapped P Q f goes (suc k) xs each.1)

pub all_mapped : {X Y : Type 0} (P : ℕ → X → Type 0) (Q : ℕ → Y → Type 0) (f : X → Y)
    → ((i : ℕ) (x : X) → P i x → Q i (f x)) → (a b : ℕ) (xs : List X) → AreFromTo P a b xs
    → AreFromTo Q a b (map f xs)
all_mapped P Q f goes a b xs are = record {
  all = omega (arith, are.all, length-map xs f);
  each = each_mapped P Q f goes a xs are.each;
}
