-- The steps of a loop over an index into a list, whose invariant speaks of what is left, `drop i xs`.
-- The item of the step is given by `slice_get xs i ≡ Some x`, as the getters of the crates above say it. With the invariant
-- `list_any p (drop l.i xs) ≡ list_any p xs` a return of true is `sym (any_here ..) ∙ invariant`, the next step
-- `sym (any_next ..) ∙ invariant`, and the end `sym (any_end ..) ∙ invariant`; the same for `find`.
use Rattle.std.proofs.Common.{◌≡◌, ◌≢◌, ℕ, zero, suc, ◌+◌, ◌<◌, ◌≤◌, Bool, true, false, ◌||◌, cond, List, [], ◌∷◌, ◌++◌, length, drop, slice_set, slice_index_or, None, Some, arith, refl, sym, ap, ◌∙◌, inl, inr, add-one}
use Rattle.std.specs.List.{slice_get, list_any, find, AllByRecursion}
use Rattle.std.proofs.lemmas.Bool.{cases_Bool, or_from}
use Rattle.std.proofs.lemmas.List.{at_drop_all}
use Rattle.std.proofs.lemmas.Option.{slice_get_within}

drop_suc : {X : Type 0} (xs : List X) (i : ℕ) (x : X) → slice_get xs i ≡ Some x → drop i xs ≡ x ∷ drop (suc i) xs
drop_suc [] i x item = cc
drop_suc (y ∷ xs) zero x item = cc
drop_suc (y ∷ xs) (suc i) x item = drop_suc xs i x item

-- what is left begins with the item at hand
pub drop_at : {X : Type 0} (xs : List X) (i : ℕ) (x : X) → slice_get xs i ≡ Some x → drop i xs ≡ x ∷ drop (i + 1) xs
drop_at xs i x item = rw add-one (drop_suc xs i x item)

module _ {X : Type 0} (p : X → Bool) where
  -- the item at hand passes
  pub any_here : (xs : List X) (i : ℕ) (x : X) → slice_get xs i ≡ Some x → p x ≡ true → list_any p (drop i xs) ≡ true
  any_here xs i x item passes = ap (list_any p) (drop_at xs i x item) ∙ ap (λ b. b || list_any p (drop (i + 1) xs)) passes

  -- the item at hand does not pass
  pub any_next : (xs : List X) (i : ℕ) (x : X) → slice_get xs i ≡ Some x → p x ≡ false → list_any p (drop i xs) ≡ list_any p (drop (i + 1) xs)
  any_next xs i x item fails = ap (list_any p) (drop_at xs i x item) ∙ ap (λ b. b || list_any p (drop (i + 1) xs)) fails

  -- no item is left
  pub any_end : (xs : List X) (i : ℕ) → length xs ≤ i → list_any p (drop i xs) ≡ false
  any_end xs i past = at_drop_all (list_any p) xs i past

  pub find_here : (xs : List X) (i : ℕ) (x : X) → slice_get xs i ≡ Some x → p x ≡ true → find p (drop i xs) ≡ Some x
  find_here xs i x item passes = ap (find p) (drop_at xs i x item) ∙ ap (λ b. cond b (Some x) (find p (drop (i + 1) xs))) passes

  pub find_next : (xs : List X) (i : ℕ) (x : X) → slice_get xs i ≡ Some x → p x ≡ false → find p (drop i xs) ≡ find p (drop (i + 1) xs)
  find_next xs i x item fails = ap (find p) (drop_at xs i x item) ∙ ap (λ b. cond b (Some x) (find p (drop (i + 1) xs))) fails

  pub find_end : (xs : List X) (i : ℕ) → length xs ≤ i → find p (drop i xs) ≡ None
  find_end xs i past = at_drop_all (find p) xs i past

-- x is the first item of xs that passes: it stands behind a front of which none does
pub record IsFirst {X : Type 0} (p : X → Bool) (xs : List X) (x : X) : Type 0 where
  pub front : List X
  pub rest : List X
  pub parts : xs ≡ front ++ x ∷ rest
  pub none_before : list_any p front ≡ false
  pub passes : p x ≡ true

-- what `find` gives is the first, and where it gives none there is none
pub first_found : {X : Type 0} (p : X → Bool) (xs : List X) (x : X) → find p xs ≡ Some x → IsFirst p xs x
first_found p [] x found = cc
first_found p (y ∷ xs) x found =
    elim (cases_Bool (p y)) [
      | inl passes ↦
          let here : Some y ≡ Some x = rw passes at found in
          let same : y ≡ x = cc in
          record { front = []; rest = xs; parts = ap (λ z. z ∷ xs) same; none_before = refl; passes = ap p (sym same) ∙ passes }
      | inr fails ↦
          let later = first_found p xs x (rw fails at found) in
          record {
            front = y ∷ later.front;
            rest = later.rest;
            parts = ap (λ l. y ∷ l) later.parts;
            none_before = or_from _ _ fails later.none_before;
            passes = later.passes;
          }
    ]

pub none_found : {X : Type 0} (p : X → Bool) (xs : List X) → find p xs ≡ None → list_any p xs ≡ false
none_found p [] none = refl
none_found p (y ∷ xs) none =
    elim (cases_Bool (p y)) [
      | inl passes ↦ let here : Some y ≡ None = rw passes at none in cc
      | inr fails ↦ or_from _ _ fails (none_found p xs (rw fails at none))
    ]

-- what stands at a place was read there
pub read_is : {X : Type 0} (xs : List X) (k : ℕ) (x : X) → k < length xs → x ≡ slice_index_or xs k x → slice_get xs k ≡ Some x
read_is [] k x within read = absurd (omega arith)
read_is (y ∷ xs) zero x within read = ap Some (sym read)
read_is (y ∷ xs) (suc k) x within read = read_is xs k x (omega arith) read

-- something stands at each place of a list
pub item_there : {X : Type 0} (xs : List X) (k : ℕ) → k < length xs → (x : X) × (slice_get xs k ≡ Some x)
item_there [] k within = absurd (omega arith)
item_there (x ∷ xs) zero within = (x, refl)
item_there (x ∷ xs) (suc k) within = item_there xs k (omega arith)

-- what is read where something was put, and elsewhere
pub set_here : {X : Type 0} (xs : List X) (k : ℕ) (x : X) → k < length xs → slice_get (slice_set xs k x) k ≡ Some x
set_here [] k x within = absurd (omega arith)
set_here (y ∷ xs) zero x within = refl
set_here (y ∷ xs) (suc k) x within = set_here xs k x (omega arith)

-- where something stood before
pub set_found : {X : Type 0} (xs : List X) (k : ℕ) (x y : X) → slice_get xs k ≡ Some x → slice_get (slice_set xs k y) k ≡ Some y
set_found xs k x y found = set_here xs k y (slice_get_within xs k x found)

pub set_beside : {X : Type 0} (xs : List X) (k j : ℕ) (x : X) → j ≢ k → slice_get (slice_set xs k x) j ≡ slice_get xs j
set_beside [] k j x other = refl
set_beside (y ∷ xs) zero zero x other = absurd (other refl)
set_beside (y ∷ xs) zero (suc j) x other = refl
set_beside (y ∷ xs) (suc k) zero x other = refl
set_beside (y ∷ xs) (suc k) (suc j) x other = set_beside xs k j x (λ same. other (ap suc same))

-- what was read at a place and is put back there changes nothing
pub set_back : {X : Type 0} (xs : List X) (k : ℕ) (x : X) → x ≡ slice_index_or xs k x → slice_set xs k x ≡ xs
set_back [] k x read = refl
set_back (y ∷ xs) zero x read = ap (λ z. z ∷ xs) read
set_back (y ∷ xs) (suc k) x read = ap (λ ys. y ∷ ys) (set_back xs k x read)

-- where P tells Q, Q holds of all of which P does
pub all_weaker : {X : Type 0} (P Q : X → Type 0) → ((x : X) → P x → Q x) → (xs : List X) → AllByRecursion P xs → AllByRecursion Q xs
all_weaker P Q tells [] all = tt
all_weaker P Q tells (x ∷ xs) all = (tells x all.0, all_weaker P Q tells xs all.1)
