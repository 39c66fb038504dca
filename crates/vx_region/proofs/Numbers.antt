-- Regions in ascending order of their numbers.
use Rattle.std.proofs.Common.{◌≡◌, ℕ, ◌-◌, ◌<◌, ◌≤◌, Bool, true, false, cond, nat_eq, List, [], ◌∷◌, ◌++◌, length, find, filter, if◌then◌else◌, None, Some, arith, zero-le, true≢false, refl, ap, sym, ◌∙◌, subst}
use Rattle.std.specs.List.{AllByRecursion, IsDistinct}
use Rattle.std.specs.Map.{keys_of}
use Rattle.std.proofs.lemmas.Bool.{ne_eqb}
use borrow.Author.Tests.{eqb-true}
use Rattle.vx_region.specs.Regions.{RegionData, Entry, Regions, changed, changed_at}
use Rattle.vx_region.specs.Forest.{IsAscending, IsBelow, IsNumbered}

-- there are at most as many numbers above n and up to m as lie between them
pub count_below : (n m : ℕ) (es : List Entry) → IsAscending n es → IsBelow m es → length es ≤ m - n
count_below n m [] up below = zero-le
count_below n m (e ∷ es) up below = omega (arith, count_below e.0 m es up.1 below.1)

-- one more number at the end, above all
pub ascending_push : (n m : ℕ) (es : List Entry) (e : Entry) → IsAscending n es → IsBelow m es → n ≤ m → m < e.0 → IsAscending n (es ++ e ∷ [])
ascending_push n m [] e up below low high = (omega arith, tt)
ascending_push n m (d ∷ es) e up below low high = (up.0, ascending_push d.0 m es e up.1 below.1 below.0 high)

pub below_push : (m : ℕ) (es : List Entry) (e : Entry) → IsBelow m es → m < e.0 → IsBelow e.0 (es ++ e ∷ [])
below_push m [] e below high = (omega arith, tt)
below_push m (d ∷ es) e below high = (omega arith, below_push m es e below.1 high)

pub numbered_push : (rs : Regions) (e : Entry) → IsNumbered rs → rs.last < e.0 → IsNumbered (record rs { last = e.0; entries = rs.entries ++ e ∷ [] })
numbered_push rs e numbered high = record {
  ascending = ascending_push 0 rs.last rs.entries e numbered.ascending numbered.given zero-le high;
  given = below_push rs.last rs.entries e numbered.given high;
}

-- a number above all has no region
pub find_above : (m k : ℕ) (es : List Entry) → IsBelow m es → m < k → find (λ e. nat_eq k e.0) es ≡ None
find_above m k [] below high = refl
find_above m k (e ∷ es) below high = by (nat_eq k e.0) refl (find_above m k es below.1 high)
  where
    by : (b : Bool) → nat_eq k e.0 ≡ b → find (λ (d : Entry). nat_eq k d.0) es ≡ None → cond b (Some e) (find (λ d. nat_eq k d.0) es) ≡ None
    by true is none = absurd (omega (arith, eqb-true k e.0 is, below.0))
    by false is none = none

-- the first that passes a test has the least number of all that pass
all_from : (test : Entry → Bool) (m n : ℕ) (es : List Entry) → m ≤ n → IsAscending n es → AllByRecursion (λ e. test e ≡ true → m ≤ e.0) es
all_from test m n [] low up = tt
all_from test m n (e ∷ es) low up = (λ passes. omega (arith, up.0), all_from test m e.0 es (omega (arith, up.0)) up.1)

pub first_is_least : (test : Entry → Bool) (n : ℕ) (es : List Entry) (first : Entry) → IsAscending n es → find test es ≡ Some first
    → AllByRecursion (λ e. test e ≡ true → first.0 ≤ e.0) es
first_is_least test n [] first up is = tt
first_is_least test n (e ∷ es) first up is = by (test e) refl (first_is_least test e.0 es first up.1)
  where
    by : (b : Bool) → test e ≡ b → (find test es ≡ Some first → AllByRecursion (λ (d : Entry). test d ≡ true → first.0 ≤ d.0) es)
        → AllByRecursion (λ (d : Entry). test d ≡ true → first.0 ≤ d.0) (e ∷ es)
    by true passes rest =
        let found : Some e ≡ Some first = sym (ap (λ b. cond b (Some e) (find test es)) passes) ∙ is in
        let same : e ≡ first = cc in
        subst (λ (f : Entry). AllByRecursion (λ (d : Entry). test d ≡ true → f.0 ≤ d.0) (e ∷ es)) same (λ _. omega arith, all_from test e.0 e.0 es (omega arith) up.1)
    by false fails rest =
        (λ passes. absurd (true≢false (sym passes ∙ fails)), rest (sym (ap (λ b. cond b (Some e) (find test es)) fails) ∙ is))

-- no two numbers are equal
apart : (m n : ℕ) (es : List Entry) → m ≤ n → IsAscending n es → AllByRecursion (λ k. nat_eq m k ≡ false) (keys_of es)
apart m n [] low up = tt
apart m n (e ∷ es) low up = (ne_eqb m e.0 (λ same. omega (arith, up.0)), apart m e.0 es (omega (arith, up.0)) up.1)

pub distinct_numbers : (n : ℕ) (es : List Entry) → IsAscending n es → IsDistinct nat_eq (keys_of es)
unfolding IsDistinct
distinct_numbers n [] up = tt
distinct_numbers n (e ∷ es) up = (apart e.0 e.0 es (omega arith) up.1, distinct_numbers e.0 es up.1)

-- a changed region keeps its number
ascending_changed : (change : RegionData → RegionData) (k n : ℕ) (es : List Entry) → IsAscending n es
    → IsAscending n (changed_at change k es)
ascending_changed change k n [] up = tt
ascending_changed change k n (e ∷ es) up = by (nat_eq k e.0) (ascending_changed change k e.0 es up.1)
  where
    by : (b : Bool) → IsAscending e.0 (changed_at change k es)
        → IsAscending n ((if b then (e.0, change e.1) else e) ∷ changed_at change k es)
    by true rest = (up.0, rest)
    by false rest = (up.0, rest)

below_changed : (change : RegionData → RegionData) (k m : ℕ) (es : List Entry) → IsBelow m es → IsBelow m (changed_at change k es)
below_changed change k m [] below = tt
below_changed change k m (e ∷ es) below = by (nat_eq k e.0) (below_changed change k m es below.1)
  where
    by : (b : Bool) → IsBelow m (changed_at change k es) → IsBelow m ((if b then (e.0, change e.1) else e) ∷ changed_at change k es)
    by true rest = (below.0, rest)
    by false rest = (below.0, rest)

pub numbered_changed : (change : RegionData → RegionData) (k : ℕ) (rs : Regions) → IsNumbered rs → IsNumbered (changed change k rs)
numbered_changed change k rs numbered = record {
  ascending = ascending_changed change k 0 rs.entries numbered.ascending;
  given = below_changed change k rs.last rs.entries numbered.given;
}

-- fewer regions keep their numbers
ascending_lower : (m n : ℕ) (es : List Entry) → m ≤ n → IsAscending n es → IsAscending m es
ascending_lower m n [] low up = tt
ascending_lower m n (e ∷ es) low up = (omega (arith, up.0), up.1)

ascending_filtered : (test : Entry → Bool) (n : ℕ) (es : List Entry) → IsAscending n es → IsAscending n (filter test es)
ascending_filtered test n [] up = tt
ascending_filtered test n (e ∷ es) up = by (test e) (ascending_filtered test e.0 es up.1)
  where
    by : (b : Bool) → IsAscending e.0 (filter test es) → IsAscending n (cond b (e ∷ filter test es) (filter test es))
    by true rest = (up.0, rest)
    by false rest = ascending_lower n e.0 (filter test es) (omega (arith, up.0)) rest

below_filtered : (test : Entry → Bool) (m : ℕ) (es : List Entry) → IsBelow m es → IsBelow m (filter test es)
below_filtered test m [] below = tt
below_filtered test m (e ∷ es) below = by (test e) (below_filtered test m es below.1)
  where
    by : (b : Bool) → IsBelow m (filter test es) → IsBelow m (cond b (e ∷ filter test es) (filter test es))
    by true rest = (below.0, rest)
    by false rest = rest

pub numbered_filtered : (test : Entry → Bool) (rs : Regions) → IsNumbered rs → IsNumbered (record rs { entries = filter test rs.entries })
numbered_filtered test rs numbered = record {
  ascending = ascending_filtered test 0 rs.entries numbered.ascending;
  given = below_filtered test rs.last rs.entries numbered.given;
}
