-- The regions of some numbers: how many, the one of each index, and that they suffice where each region there has its number among these.
use Rattle.std.proofs.Common.{◌≡◌, ◌⊎◌, ℕ, zero, suc, ◌<◌, ◌≤◌, Bool, true, false, cond, nat_eq, length, slice_get, find, List, [], ◌∷◌, Option, Some, None, IsSome, option_map, Bor, Contains, inl, inr, refl, ap, sym, ◌∙◌, subst, arith}
use Rattle.std.specs.List.{filter, cons_option, All, AllPairs, slice_index_or}
use Rattle.std.specs.Option.{option_copied}
use Rattle.std.proofs.lemmas.Bool.{both_ways, eqb-true}
use Rattle.std.proofs.lemmas.List.Elements.{All-cons, All-contains, All-contains_itself, All-filter, Contains-get_or, filter_passes}
use Rattle.std.proofs.lemmas.Option.{get_or_from_slice_get, slice_get-get_or}
use Rattle.std.proofs.lemmas.List.Kept.{AllPairs-from_increasing, AllPairs-cons, AllPairs-filter}
use Rattle.vx_geom.specs.declared.pos.Pos.{Pos}
use Rattle.vx_geom.specs.Outline.{is_in}
use Rattle.vx_region.specs.Forest.{IsAscending, IsForest, IsNumbered}
use Rattle.vx_region.specs.Regions.{Entry, RegionData, Regions, region_at}
use Rattle.vx_region.proofs.Lookups.{region_at_place}
use Rattle.vx_decide.specs.Candidates.{AreNumbers, AreOf, Ascend, HoldCandidates, entry_at, regions_at, Suffice}
use Rattle.vx_decide.proofs.Picks.{at_head, in_tail, in_none, head_or_tail}

-- a reference to read was found where what it refers to was
pub some_read : {X : Type 0} (o : Option (Bor X)) → IsSome (option_copied o) → IsSome o
some_read None there = there
some_read (Some x) there = refl

-- a number that has a region has this one
region_there : (rs : Regions) (n : ℕ) → IsSome (region_at rs n) → (r : RegionData) × (region_at rs n ≡ Some r)
region_there rs n there = by (region_at rs n) refl there
  where
    by : (o : Option RegionData) → region_at rs n ≡ o → IsSome o → (r : RegionData) × (region_at rs n ≡ Some r)
    by None is some = cc
    by (Some r) is some = (r, is)

entry_there : (rs : Regions) (n : ℕ) → IsSome (region_at rs n) → (r : RegionData) × (entry_at rs n ≡ Some (n, r))
entry_there rs n there = let found = region_there rs n there in (found.0, ap (option_map (λ d. (n, d))) found.1)

named_tail : (rs : Regions) (n : ℕ) (ns : List ℕ) → AreNumbers rs (n ∷ ns) → AreNumbers rs ns
named_tail rs n ns named m there = named m (in_tail n ns m there)

-- there are as many regions as numbers
pub regions_length : (rs : Regions) (numbers : List ℕ) → AreNumbers rs numbers → length (regions_at rs numbers) ≡ length numbers
regions_length rs [] named = refl
regions_length rs (n ∷ ns) named =
    let e = entry_there rs n (named n (at_head n ns)) in
    ap (λ o. length (cons_option o (regions_at rs ns))) e.1 ∙ ap suc (regions_length rs ns (named_tail rs n ns named))

-- each number is one of a region
pub number_named : (rs : Regions) (numbers : List ℕ) (i : ℕ) → AreNumbers rs numbers → i < length numbers
    → IsSome (region_at rs (slice_index_or numbers i 0))
number_named rs numbers i named below = named (slice_index_or numbers i 0) (Contains-get_or numbers i 0 below)

-- and the region of an index is the one of its number
pub regions_read : (rs : Regions) (numbers : List ℕ) (i : ℕ) → AreNumbers rs numbers → i < length numbers
    → slice_get (regions_at rs numbers) i ≡ entry_at rs (slice_index_or numbers i 0)
regions_read rs [] i named below = absurd (omega (arith, below))
regions_read rs (n ∷ ns) zero named below =
    let e = entry_there rs n (named n (at_head n ns)) in
    ap (λ o. slice_get (cons_option o (regions_at rs ns)) 0) e.1 ∙ sym e.1
regions_read rs (n ∷ ns) (suc i) named below =
    let e = entry_there rs n (named n (at_head n ns)) in
    ap (λ o. slice_get (cons_option o (regions_at rs ns)) (suc i)) e.1
    ∙ regions_read rs ns i (named_tail rs n ns named) (omega (arith, below))

-- numbers that ascend are each below all later ones
ascending_below : (n m : ℕ) (es : List Entry) → n ≤ m → IsAscending m es → IsAscending n es
ascending_below n m [] low up = tt
ascending_below n m (e ∷ es) low up = (omega (arith, low, up.0), up.1)

all_above : (n : ℕ) (es : List Entry) → IsAscending n es → All (λ e. n < e.0) es
all_above n [] up = λ k d below. absurd (omega (arith, below))
all_above n (e ∷ es) up = All-cons (λ d. n < d.0) e es up.0 (all_above n es (ascending_below n e.0 es (omega (arith, up.0)) up.1))

all_ascend : (n : ℕ) (es : List Entry) → IsAscending n es → Ascend es
all_ascend n [] up = λ i j d before below. absurd (omega (arith, below))
all_ascend n (e ∷ es) up = AllPairs-cons (λ a b. a.0 < b.0) e es (all_above e.0 es up.1) (all_ascend e.0 es up.1)

-- so the regions of numbers that ascend do too
number_read : (rs : Regions) (numbers : List ℕ) (i : ℕ) (d : Entry) → AreNumbers rs numbers → i < length numbers
    → (slice_index_or (regions_at rs numbers) i d).0 ≡ slice_index_or numbers i 0
number_read rs numbers i d named below =
    let n = slice_index_or numbers i 0 in
    let e = entry_there rs n (number_named rs numbers i named below) in
    ap (λ (a : Entry). a.0) (get_or_from_slice_get (regions_at rs numbers) i (n, e.0) d (regions_read rs numbers i named below ∙ e.1))

these_ascend : (rs : Regions) (numbers : List ℕ) → AllPairs (λ m n. m < n) numbers → AreNumbers rs numbers → Ascend (regions_at rs numbers)
these_ascend rs numbers pairs named i j d before below =
    let many = regions_length rs numbers named in
    let inside : j < length numbers = omega (arith, many, below) in
    let outside : i < length numbers = omega (arith, before, inside) in
    omega (arith, pairs i j 0 before inside, number_read rs numbers i d named outside, number_read rs numbers j d named inside)

-- two lists in order of number with the same regions are the same
later_above : (x : Entry) (xs : List Entry) (e : Entry) → Ascend (x ∷ xs) → Contains xs e → x.0 < e.0
later_above x xs e up there =
    subst (λ (d : Entry). x.0 < d.0) there.2 (up 0 (suc there.0) e (omega arith) (omega (arith, there.1)))

ascend_tail : (x : Entry) (xs : List Entry) → Ascend (x ∷ xs) → Ascend xs
ascend_tail x xs up i j d before below = up (suc i) (suc j) d (omega (arith, before)) (omega (arith, below))

same_lists : (xs ys : List Entry) → Ascend xs → Ascend ys → ((e : Entry) → Contains xs e → Contains ys e) → ((e : Entry) → Contains ys e → Contains xs e) → xs ≡ ys
same_lists [] [] up_x up_y to from = refl
same_lists [] (y ∷ ys) up_x up_y to from = absurd (in_none y (from y (at_head y ys)))
same_lists (x ∷ xs) [] up_x up_y to from = absurd (in_none x (to x (at_head x xs)))
same_lists (x ∷ xs) (y ∷ ys) up_x up_y to from =
    ap (λ e. e ∷ xs) first ∙ ap (λ es. y ∷ es) (same_lists xs ys (ascend_tail x xs up_x) (ascend_tail y ys up_y) on back)
  where
    first : x ≡ y
    first = elim (head_or_tail y ys x (to x (at_head x xs))) [
      | inl same ↦ sym same
      | inr later ↦ elim (head_or_tail x xs y (from y (at_head y ys))) [
        | inl same ↦ same
        | inr behind ↦ absurd (omega (arith, later_above y ys x up_y later, later_above x xs y up_x behind))
      ]
    ]

    on : (e : Entry) → Contains xs e → Contains ys e
    on e there = elim (head_or_tail y ys e (to e (in_tail x xs e there))) [
      | inl same ↦ absurd (omega (arith, later_above x xs e up_x there, ap (λ (d : Entry). d.0) (first ∙ same)))
      | inr later ↦ later
    ]

    back : (e : Entry) → Contains ys e → Contains xs e
    back e there = elim (head_or_tail x xs e (from e (in_tail y ys e there))) [
      | inl same ↦ absurd (omega (arith, later_above y ys e up_y there, ap (λ (d : Entry). d.0) (sym first ∙ same)))
      | inr later ↦ later
    ]

-- what passes a test is kept, and what is kept passes it
in_filter : (c : Entry → Bool) (xs : List Entry) (e : Entry) → Contains xs e → c e ≡ true → Contains (filter c xs) e
in_filter c [] e there passes = absurd (in_none e there)
in_filter c (x ∷ xs) e there passes = by (c x) refl (head_or_tail x xs e there) (λ later. in_filter c xs e later passes)
  where
    by : (b : Bool) → c x ≡ b → (x ≡ e) ⊎ Contains xs e → (Contains xs e → Contains (filter c xs) e) → Contains (cond b (x ∷ filter c xs) (filter c xs)) e
    by true is (inl same) rest = subst (Contains (x ∷ filter c xs)) same (at_head x (filter c xs))
    by true is (inr later) rest = in_tail x (filter c xs) e (rest later)
    by false is (inl same) rest = absurd (both_ways (c x) is (ap c same ∙ passes))
    by false is (inr later) rest = rest later

out_of_filter : (c : Entry → Bool) (xs : List Entry) (e : Entry) → Contains (filter c xs) e → Contains xs e × (c e ≡ true)
out_of_filter c xs e there = (
  All-contains (Contains xs) (filter c xs) e (All-filter c (Contains xs) xs (All-contains_itself xs)) there,
  All-contains (λ d. c d ≡ true) (filter c xs) e (filter_passes c xs) there,
)

-- the region of one of the numbers is among theirs
in_regions : (rs : Regions) (numbers : List ℕ) (n : ℕ) (r : RegionData) → Contains numbers n → region_at rs n ≡ Some r → Contains (regions_at rs numbers) (n, r)
in_regions rs [] n r there is = absurd (in_none n there)
in_regions rs (m ∷ ms) n r there is = elim (head_or_tail m ms n there) [
  | inl same ↦
      subst (λ o. Contains (cons_option o (regions_at rs ms)) (n, r)) (sym (ap (entry_at rs) same ∙ ap (option_map (λ d. (n, d))) is))
      (at_head (n, r) (regions_at rs ms))
  | inr later ↦ behind (entry_at rs m) (in_regions rs ms n r later is)
]
  where
    behind : (o : Option Entry) → Contains (regions_at rs ms) (n, r) → Contains (cons_option o (regions_at rs ms)) (n, r)
    behind None rest = rest
    behind (Some e) rest = in_tail e (regions_at rs ms) (n, r) rest

-- and each that is among theirs has its number
from_regions : (rs : Regions) (numbers : List ℕ) (e : Entry) → Contains (regions_at rs numbers) e → region_at rs e.0 ≡ Some e.1
from_regions rs [] e there = absurd (in_none e there)
from_regions rs (m ∷ ms) e there = by (region_at rs m) refl there (from_regions rs ms e)
  where
    by : (o : Option RegionData) → region_at rs m ≡ o → Contains (cons_option (option_map (λ r. (m, r)) o) (regions_at rs ms)) e
        → (Contains (regions_at rs ms) e → region_at rs e.0 ≡ Some e.1) → region_at rs e.0 ≡ Some e.1
    by None is here rest = rest here
    by (Some r) is here rest = elim (head_or_tail (m, r) (regions_at rs ms) e here) [
      | inl same ↦ subst (λ (d : Entry). region_at rs d.0 ≡ Some d.1) same is
      | inr later ↦ rest later
    ]

-- so each of them is a region with its number
each_at : (rs : Regions) (numbers : List ℕ) → AreOf rs (regions_at rs numbers)
each_at rs [] i e there = cc
each_at rs (m ∷ ms) i e there = by (region_at rs m) refl i there (λ j. each_at rs ms j e)
  where
    by : (o : Option RegionData) → region_at rs m ≡ o → (j : ℕ) → slice_get (cons_option (option_map (λ r. (m, r)) o) (regions_at rs ms)) j ≡ Some e
        → ((k : ℕ) → slice_get (regions_at rs ms) k ≡ Some e → region_at rs e.0 ≡ Some e.1) → region_at rs e.0 ≡ Some e.1
    by None is j here rest = rest j here
    by (Some r) is zero here rest = let same : (m, r) ≡ e = cc in subst (λ (d : Entry). region_at rs d.0 ≡ Some d.1) same is
    by (Some r) is (suc j) here rest = rest j here

pub regions_of_numbers : (rs : Regions) (numbers : List ℕ) (these : List Entry) → these ≡ regions_at rs numbers → AreOf rs these
regions_of_numbers rs numbers these same = subst (AreOf rs) (sym same) (each_at rs numbers)

-- and so is each of all
pub all_regions : (rs : Regions) (these : List Entry) → IsForest rs → these ≡ rs.entries → AreOf rs these
all_regions rs these forest same =
    subst (AreOf rs) (sym same) (λ i e there. region_at_place rs i e.0 e.1 forest.numbered there)

-- the region of a number stands among all with it
found_among : (n : ℕ) (r : RegionData) (es : List Entry) → option_map (λ (e : Entry). e.1) (find (λ e. nat_eq n e.0) es) ≡ Some r → Contains es (n, r)
found_among n r [] found = cc
found_among n r (e ∷ es) found = by (nat_eq n e.0) refl found (found_among n r es)
  where
    rest : Option Entry
    rest = find (λ d. nat_eq n d.0) es

    by : (b : Bool) → nat_eq n e.0 ≡ b → option_map (λ (d : Entry). d.1) (cond b (Some e) rest) ≡ Some r
        → (option_map (λ (d : Entry). d.1) rest ≡ Some r → Contains es (n, r)) → Contains (e ∷ es) (n, r)
    by true is here later =
        let region : e.1 ≡ r = cc in
        let number : e.0 ≡ n = sym (eqb-true n e.0 is) in
        let same : e ≡ (n, r) = λ i. (number i, region i) in
        subst (Contains (e ∷ es)) same (at_head e es)
    by false is here later = in_tail e es (n, r) (later here)

entry_among : (rs : Regions) (n : ℕ) (r : RegionData) → region_at rs n ≡ Some r → Contains rs.entries (n, r)
unfolding region_at
entry_among rs n r there = found_among n r rs.entries there

-- and each that stands among all is the one of its number
region_of_entry : (rs : Regions) (e : Entry) → IsNumbered rs → Contains rs.entries e → region_at rs e.0 ≡ Some e.1
region_of_entry rs e numbered there =
    region_at_place rs there.0 e.0 e.1 numbered (slice_get-get_or rs.entries there.0 e there.1 ∙ ap Some there.2)

-- no region has number 0
pub above_zero : (rs : Regions) (n : ℕ) (r : RegionData) → IsNumbered rs → region_at rs n ≡ Some r → 0 < n
above_zero rs n r numbered there =
    All-contains (λ (e : Entry). 0 < e.0) rs.entries (n, r) (all_above 0 rs.entries numbered.ascending) (entry_among rs n r there)

-- all regions of a set suffice
pub all_suffice : (rs : Regions) (p : Pos) (these : List Entry) → IsForest rs → these ≡ rs.entries → Suffice rs.entries p these
all_suffice rs p these forest same =
    subst (Suffice rs.entries p) (sym same) (record { ascending = all_ascend 0 rs.entries forest.numbered.ascending; same = refl })

-- and so do those of numbers among which is that of each region there
pub candidates_suffice : (rs : Regions) (p : Pos) (numbers : List ℕ) (these : List Entry) → IsForest rs → HoldCandidates rs p numbers
    → these ≡ regions_at rs numbers → Suffice rs.entries p these
candidates_suffice rs p numbers these forest hold same = subst (Suffice rs.entries p) (sym same) (record {
  ascending = up;
  same = same_lists (filter there (regions_at rs numbers)) (filter there rs.entries)
      (AllPairs-filter (λ d e. d.0 < e.0) there (regions_at rs numbers) up)
      (AllPairs-filter (λ d e. d.0 < e.0) there rs.entries (all_ascend 0 rs.entries forest.numbered.ascending)) on back;
})
  where
    there : Entry → Bool
    there e = is_in e.1.shape p

    up : Ascend (regions_at rs numbers)
    up = these_ascend rs numbers (AllPairs-from_increasing numbers hold.ascending) hold.named

    on : (e : Entry) → Contains (filter there (regions_at rs numbers)) e → Contains (filter there rs.entries) e
    on e kept =
        let parts = out_of_filter there (regions_at rs numbers) e kept in
        in_filter there rs.entries e (entry_among rs e.0 e.1 (from_regions rs numbers e parts.0)) parts.1

    back : (e : Entry) → Contains (filter there rs.entries) e → Contains (filter there (regions_at rs numbers)) e
    back e kept =
        let parts = out_of_filter there rs.entries e kept in
        let is = region_of_entry rs e forest.numbered parts.0 in
        in_filter there (regions_at rs numbers) e (in_regions rs numbers e.0 e.1 (hold.whole e.0 e.1 is parts.1) is) parts.1
