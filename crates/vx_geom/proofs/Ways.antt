-- Edges along a way from point to point. A way that ends where it began changes its side an even
-- number of times.
use Rattle.std.proofs.Common.{◌≡◌, ℕ, ◌+◌, ◌-◌, ◌%◌, Bool, true, false, ◌==◌, not, cond, List, [], ◌∷◌, length, Some, inl, inr, count_by, arith, ap, sym, refl, ◌∙◌}
use Rattle.std.specs.List.{list_any, slice_get, AllByRecursion}
use Rattle.std.proofs.lemmas.Bool.{false≢true, or_cases, false_from_ne_true, cases_Bool}
use Rattle.std.proofs.lemmas.List.Sums.{sum_by-cons}
use Rattle.vx_geom.specs.Polygon.{Column, Edge, edges, edges_from, edges_after}

-- P holds of each of the points
abbrev pub Each : (Column → Type 0) → List Column → Type 0
Each P [] = Unit {0}
Each P (c ∷ cs) = P c × Each P cs

-- Q holds of each edge between points of which P holds
abbrev pub OfEach : (Column → Type 0) → (Edge → Type 0) → Type 0
OfEach P Q = (a b : Column) → P a → P b → Q (a, b)

-- one of the two holds, and the other does not
abbrev pub is_one : Bool → Bool → Bool
is_one true b = not b
is_one false b = b

abbrev pub is_odd : ℕ → Bool
is_odd n = n % 2 == 1

-- the last point of a way
abbrev end_of : Column → List Column → Column
end_of a [] = a
end_of a (b ∷ bs) = end_of b bs

-- the edges of a way that begins at its last point
abbrev pub closed : Column → List Column → List Edge
closed a bs = edges_after (end_of a bs) (a ∷ bs)

last_is_end : (a : Column) (bs : List Column) → slice_get (a ∷ bs) (length bs) ≡ Some (end_of a bs)
last_is_end a [] = refl
last_is_end a (b ∷ bs) = last_is_end b bs

pub edges_are : (a : Column) (bs : List Column) → edges (a ∷ bs) ≡ closed a bs
edges_are a bs =
    let before : length (a ∷ bs) - 1 ≡ length bs = omega arith in
    ap (λ o. edges_from o (a ∷ bs)) (ap (slice_get (a ∷ bs)) before ∙ last_is_end a bs)

of_end : (P : Column → Type 0) (a : Column) (bs : List Column) → Each P (a ∷ bs) → P (end_of a bs)
of_end P a [] all = all.0
of_end P a (b ∷ bs) all = of_end P b bs all.1

of_edges : (P : Column → Type 0) (Q : Edge → Type 0) → OfEach P Q → (a : Column) (bs : List Column) → P a → Each P bs
    → AllByRecursion Q (edges_after a bs)
of_edges P Q each a [] of_a all = tt
of_edges P Q each a (b ∷ bs) of_a all = (each a b of_a all.0, of_edges P Q each b bs all.0 all.1)

-- what holds of each edge between points of which P holds is so of each of a way between such points
pub of_closed : (P : Column → Type 0) (Q : Edge → Type 0) → OfEach P Q
    → (a : Column) (bs : List Column) → Each P (a ∷ bs) → AllByRecursion Q (closed a bs)
of_closed P Q each a bs all = of_edges P Q each (end_of a bs) (a ∷ bs) (of_end P a bs all) all

-- what is so where an edge passes the test is so where one of these does
pub any_along : (f : Edge → Bool) (T : Type 0) (es : List Edge) → AllByRecursion (λ d. f d ≡ true → T) es
    → list_any f es ≡ true → T
any_along f T [] each some = absurd (false≢true some)
any_along f T (d ∷ ds) each some =
    elim (or_cases (f d) (list_any f ds) some) [
      | inl here ↦ each.0 here
      | inr later ↦ any_along f T ds each.1 later
    ]

-- one edge more, counted or not
one_more : (f : Edge → Bool) (d : Edge) (ds : List Edge) (t : Bool) → f d ≡ t
    → count_by f (d ∷ ds) ≡ cond t 1 0 + count_by f ds
one_more f d ds t is = sum_by-cons (λ x. cond (f x) 1 0) d ds ∙ ap (λ b. cond b 1 0 + count_by f ds) is

-- where no edge passes the test none is counted
pub none_along : (f : Edge → Bool) (es : List Edge) → AllByRecursion (λ d. f d ≡ false) es → count_by f es ≡ 0
none_along f [] each = refl
none_along f (d ∷ ds) each =
    let rest = none_along f ds each.1 in
    let more = one_more f d ds false each.0 in
    omega (arith, more, rest)

odd_next : (n : ℕ) → is_odd (1 + n) ≡ not (is_odd n)
odd_next n =
    elim (cases_Bool (n % 2 == 1)) [
      | inl holds ↦ false_from_ne_true _ (λ odd. grind (arith, holds, odd)) ∙ sym (ap not holds)
      | inr fails ↦ grind (arith, fails)
    ]

odd_same : (n : ℕ) → is_odd (0 + n) ≡ is_odd n
odd_same n = ap is_odd (let same : 0 + n ≡ n = omega arith in same)

-- one more where the two differ
odd_more : (s t : Bool) (n : ℕ) → is_odd (cond (is_one s t) 1 0 + n) ≡ is_one (is_one s t) (is_odd n)
odd_more true true n = odd_same n
odd_more true false n = odd_next n
odd_more false true n = odd_next n
odd_more false false n = odd_same n

one_by_one : (s t u : Bool) → is_one (is_one s t) (is_one t u) ≡ is_one s u
one_by_one true true true = refl
one_by_one true true false = refl
one_by_one true false true = refl
one_by_one true false false = refl
one_by_one false true true = refl
one_by_one false true false = refl
one_by_one false false true = refl
one_by_one false false false = refl

never_one : (s : Bool) → is_one s s ≡ false
never_one true = refl
never_one false = refl

-- an edge is counted where its ends are on two sides
abbrev pub Changes : (Edge → Bool) → (Column → Bool) → Edge → Type 0
Changes f s d = f d ≡ is_one (s d.0) (s d.1)

-- a way changes its side an odd number of times where its ends are on two sides
odd_changes : (f : Edge → Bool) (s : Column → Bool) (a : Column) (bs : List Column) → AllByRecursion (Changes f s) (edges_after a bs)
    → is_odd (count_by f (edges_after a bs)) ≡ is_one (s a) (s (end_of a bs))
odd_changes f s a [] each = sym (never_one (s a))
odd_changes f s a (b ∷ bs) each =
    ap is_odd (one_more f (a, b) (edges_after b bs) (is_one (s a) (s b)) each.0)
    ∙ odd_more (s a) (s b) (count_by f (edges_after b bs))
    ∙ ap (is_one (is_one (s a) (s b))) (odd_changes f s b bs each.1)
    ∙ one_by_one (s a) (s b) (s (end_of b bs))

-- and so never where it ends where it began
pub even_closed : (f : Edge → Bool) (s : Column → Bool) (a : Column) (bs : List Column)
    → AllByRecursion (Changes f s) (closed a bs) → is_odd (count_by f (closed a bs)) ≡ false
even_closed f s a bs each =
    odd_changes f s (end_of a bs) (a ∷ bs) each ∙ never_one (s (end_of a bs))
