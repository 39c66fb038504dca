-- What is kept of lists by tests, and facts on all elements of joined lists.
use Rattle.std.proofs.Common.{◌≡◌, arith, ℕ, suc, Bool, true, false, ◌&&◌, List, [], ◌∷◌, ◌++◌, length, map, filter, cond, nat_eq, Some, refl, ap, inl, inr}
use Rattle.std.specs.List.{AllByRecursion}
use Rattle.std.proofs.lemmas.Bool.{cases_Bool, eqb-true}
use Rattle.vx_audit.specs.Deeds.{same_number}

pub and_no : (b : Bool) → (b && false) ≡ false
and_no true = refl
and_no false = refl

pub and_yes : (b : Bool) → (b && true) ≡ b
and_yes true = refl
and_yes false = refl

pub and_first : (a b : Bool) → (a && b) ≡ true → a ≡ true
and_first true b both = refl
and_first false b both = both

-- two sectors of different numbers
pub unlike : (j k : ℕ) → (j ≡ k → ⊥) → same_number (Some j) (Some k) ≡ false
unlike j k other = elim (cases_Bool (nat_eq j k)) [ inl same ↦ absurd (other (eqb-true j k same)) | inr differ ↦ differ ]

-- what has no elements
pub empty_of : {X : Type 0} (xs : List X) → length xs ≡ 0 → xs ≡ []
empty_of [] none = refl
empty_of (x ∷ xs) none = absurd (omega (arith, none))

-- as many pass a test before they are mapped as after it
pub filter_mapped : {X Y : Type 0} (q : Y → Bool) (f : X → Y) (xs : List X) → length (filter q (map f xs)) ≡ length (filter (λ x. q (f x)) xs)
filter_mapped q f [] = refl
filter_mapped q f (x ∷ xs) = by (q (f x)) (filter_mapped q f xs)
  where
    by : (b : Bool) → length (filter q (map f xs)) ≡ length (filter (λ y. q (f y)) xs)
        → length (cond b (f x ∷ filter q (map f xs)) (filter q (map f xs))) ≡ length (cond b (x ∷ filter (λ y. q (f y)) xs) (filter (λ y. q (f y)) xs))
    by true rest = ap suc rest
    by false rest = rest

pub all_back : {X : Type 0} (P : X → Type 0) (xs ys : List X) → AllByRecursion P (xs ++ ys) → AllByRecursion P ys
all_back P [] ys all = all
all_back P (x ∷ xs) ys all = all_back P xs ys all.1

pub all_front : {X : Type 0} (P : X → Type 0) (xs ys : List X) → AllByRecursion P (xs ++ ys) → AllByRecursion P xs
all_front P [] ys all = tt
all_front P (x ∷ xs) ys all = (all.0, all_front P xs ys all.1)
