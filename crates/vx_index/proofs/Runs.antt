-- What a test keeps of a list that it parts is a run, and so is what stands before a number and behind it where numbers do not fall.
use Rattle.std.proofs.Common.{◌≡◌, ℕ, zero, suc, ◌+◌, ◌-◌, ◌≤◌, Bool, true, false, cond, nat_lt, filter, List, [], ◌∷◌, length, take, drop, leb, ltb, leb-true, ◌<◌, ◌≢◌, inl, inr, refl, ap, sym, ◌∙◌, arith, length-drop}
use Rattle.std.specs.List.{AllWithin, slice_index_or}
use Rattle.std.specs.List.Sorted.{IsNonDecreasing, IsNonDecreasingBy, IsPartitionedBy, IsPartitionPoint, IsStrictlyIncreasing}
use Rattle.std.proofs.lemmas.Bool.{cases_lt, leb-false, le-leb, lt-ltb, lt-leb, ltb-false, ltb-true}
use Rattle.std.proofs.lemmas.List.{take_all}
use Rattle.std.proofs.lemmas.List.Kept.{AllPairs-from_increasing}
use Rattle.std.proofs.lemmas.List.Sorted.{IsNonDecreasingBy-from_all_adjacent, IsPartitionedBy-leb, IsPartitionedBy-ltb}

module _ {X : Type 0} (p : X → Bool) where
  -- where those that pass come first they are the run before the others
  pub kept_front : (xs : List X) (i : ℕ) → i ≤ length xs → IsPartitionPoint (λ x. p x ≡ true) (λ x. p x ≡ false) xs i → take i xs ≡ filter p xs
  kept_front [] zero within parts = refl
  kept_front [] (suc i) within parts = absurd (omega arith)
  kept_front (x ∷ xs) zero within parts =
      kept_front xs zero (omega arith) (λ k d low high. absurd (omega arith), λ k d low high. parts.1 (suc k) d (omega arith) (omega arith))
      ∙ sym (ap (λ b. cond b (x ∷ filter p xs) (filter p xs)) (parts.1 0 x (omega arith) (omega arith)))
  kept_front (x ∷ xs) (suc i) within parts =
      ap (λ ys. x ∷ ys) (kept_front xs i (omega arith) (λ k d low high. parts.0 (suc k) d (omega arith) (omega arith), λ k d low high. parts.1 (suc k) d (omega arith) (omega arith)))
      ∙ sym (ap (λ b. cond b (x ∷ filter p xs) (filter p xs)) (parts.0 0 x (omega arith) (omega arith)))

  -- and where they come last they are the run behind the others
  pub kept_back : (xs : List X) (i : ℕ) → i ≤ length xs → IsPartitionPoint (λ x. p x ≡ false) (λ x. p x ≡ true) xs i → drop i xs ≡ filter p xs
  kept_back [] zero within parts = refl
  kept_back [] (suc i) within parts = absurd (omega arith)
  kept_back (x ∷ xs) zero within parts =
      ap (λ ys. x ∷ ys) (kept_back xs zero (omega arith) (λ k d low high. absurd (omega arith), λ k d low high. parts.1 (suc k) d (omega arith) (omega arith)))
      ∙ sym (ap (λ b. cond b (x ∷ filter p xs) (filter p xs)) (parts.1 0 x (omega arith) (omega arith)))
  kept_back (x ∷ xs) (suc i) within parts =
      kept_back xs i (omega arith) (λ k d low high. parts.0 (suc k) d (omega arith) (omega arith), λ k d low high. parts.1 (suc k) d (omega arith) (omega arith))
      ∙ sym (ap (λ b. cond b (x ∷ filter p xs) (filter p xs)) (parts.0 0 x (omega arith) (omega arith)))

module _ {X : Type 0} (number : X → ℕ) (n : ℕ) (xs : List X) (up : IsNonDecreasingBy number xs) where
  -- those of lower numbers, as a slice has them
  pub run_before : (end : ℕ) → end ≤ length xs
      → (IsPartitionedBy (λ x. ltb (number x) n) xs → IsPartitionPoint (λ x. ltb (number x) n ≡ true) (λ x. ltb (number x) n ≡ false) xs end)
      → take end xs ≡ filter (λ x. nat_lt (number x) n) xs
  run_before end within found = kept_front (λ x. nat_lt (number x) n) xs end within (found (IsPartitionedBy-ltb number xs n up))

  -- and those of higher ones
  pub run_behind : (start : ℕ) → start ≤ length xs
      → (IsPartitionedBy (λ x. leb (number x) n) xs → IsPartitionPoint (λ x. leb (number x) n ≡ true) (λ x. leb (number x) n ≡ false) xs start)
      → take (length xs - start) (drop start xs) ≡ filter (λ x. nat_lt n (number x)) xs
  run_behind start within found =
      let parts = found (IsPartitionedBy-leb number xs n up) in
      take_all (length xs - start) (drop start xs) (omega (arith, length-drop start xs))
      ∙ kept_back (λ x. nat_lt n (number x)) xs start within (
        λ k d low high. lt-leb _ _ (omega (arith, leb-true _ _ (parts.0 k d low high))),
        λ k d low high. lt-ltb _ _ (leb-false _ _ (parts.1 k d low high)),
      )

  -- those of the number itself stand together behind the lower ones, and the higher ones behind them
  pub run_past : (end start : ℕ) → end ≤ start → start ≤ length xs
      → (IsPartitionedBy (λ x. ltb (number x) n) xs → IsPartitionPoint (λ x. ltb (number x) n ≡ true) (λ x. ltb (number x) n ≡ false) xs end)
      → AllWithin (λ x. number x ≡ n) xs end start → ((d : X) → start < length xs → number (slice_index_or xs start d) ≢ n)
      → take (length xs - start) (drop start xs) ≡ filter (λ x. nat_lt n (number x)) xs
  run_past end start past within found run stops =
      let parts = found (IsPartitionedBy-ltb number xs n up) in
      run_behind start within (λ parted. (
        λ k d first before. elim (cases_lt k end) [
          | inl lower ↦ le-leb _ _ (omega (arith, ltb-true _ _ (parts.0 k d (omega arith) lower)))
          | inr same ↦ le-leb _ _ (omega (arith, run k d (omega (arith, same)) before))
        ],
        λ k d first before.
            let behind : start < length xs = omega (arith, first, before) in
            let low = ltb-false _ _ (parts.1 start d past behind) in
            let other : number (slice_index_or xs start d) ≢ n = stops d behind in
            lt-leb _ _ (omega (arith, low, other, up start k d first before)),
      ))

-- numbers that rise never fall
pub rising_never_fall : (numbers : List ℕ) → IsStrictlyIncreasing numbers → IsNonDecreasing numbers
rising_never_fall numbers rising =
    IsNonDecreasingBy-from_all_adjacent (λ m. m) numbers
    (λ k d within. omega (arith, AllPairs-from_increasing numbers rising k (k + 1) d (omega arith) within))
