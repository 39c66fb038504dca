-- What a look-up by number finds, before and after a change.
use Rattle.std.proofs.Common.{◌≡◌, ◌≢◌, ◌⊎◌, inl, inr, ℕ, ◌<◌, Bool, true, false, cond, nat_eq, if◌then◌else◌, List, [], ◌∷◌, find, Option, None, Some, IsSome, option_map, slice_get, Bor, refl, ap, sym, ◌∙◌, subst}
use Rattle.std.specs.Cmp.{nat_eq_equiv}
use Rattle.std.specs.List.{AllByRecursion, IsDistinct}
use Rattle.std.specs.Option.{option_copied, option_and_then}
use Rattle.std.specs.Map.{lookup, set_value, keys_of}
use Rattle.std.proofs.lemmas.Bool.{eq-eqb}
use Rattle.std.proofs.lemmas.Map.Entries.{lookup_from_place}
use Rattle.std.proofs.lemmas.Map.Keys.{IsDistinct-head, IsDistinct-tail}
use Rattle.std.proofs.lemmas.Map.Steps.{set_value_same}
use borrow.Author.Tests.{eqb-true}
use Rattle.vx_region.specs.Forest.{IsNumbered}
use Rattle.vx_region.specs.Regions.{RegionData, Entry, Regions, region_at, parent_of, changed, changed_at}
use Rattle.vx_region.proofs.Numbers.{find_above, distinct_numbers}

-- a look-up as the map makes it is one as the definitions make it
pub lookup_is : (n : ℕ) (es : List Entry) → lookup (nat_eq n) es ≡ option_map (λ e. e.1) (find (λ e. nat_eq n e.0) es)
lookup_is n [] = refl
lookup_is n (e ∷ es) = by (nat_eq n e.0) (lookup_is n es)
  where
    by : (b : Bool) → lookup (nat_eq n) es ≡ option_map (λ (d : Entry). d.1) (find (λ d. nat_eq n d.0) es)
        → cond b (Some e.1) (lookup (nat_eq n) es) ≡ option_map (λ (d : Entry). d.1) (cond b (Some e) (find (λ d. nat_eq n d.0) es))
    by true rest = refl
    by false rest = rest

-- the look-up finds the region of a number that has one
pub known_found : (n : ℕ) (rs : Regions) → IsSome (region_at rs n) → IsSome (lookup (nat_eq n) rs.entries)
unfolding region_at
known_found n rs known = rw (lookup_is n rs.entries) known

-- a reference to read was found where what it refers to was
some_read : {X : Type 0} (o : Option (Bor X)) → IsSome (option_copied o) → IsSome o
some_read None there = there
some_read (Some x) there = refl

-- the map shows the region of a number that has one
pub read_from_known : (n : ℕ) (rs : Regions) (shown : Option (Bor RegionData)) → IsSome (region_at rs n)
    → option_copied shown ≡ lookup (nat_eq n) rs.entries → IsSome shown
unfolding region_at
read_from_known n rs shown known found = some_read shown (rw (found, lookup_is n rs.entries) known)

-- the region at a place is the one of the number there
pub region_at_place : (rs : Regions) (i n : ℕ) (r : RegionData) → IsNumbered rs → slice_get rs.entries i ≡ Some (n, r) → region_at rs n ≡ Some r
unfolding region_at
region_at_place rs i n r numbered there =
    sym (lookup_is n rs.entries) ∙ lookup_from_place nat_eq_equiv rs.entries i n r (distinct_numbers 0 rs.entries numbered.ascending) there

-- where no entry has the number, nothing changes
changed_none : (change : RegionData → RegionData) (n : ℕ) (es : List Entry) → AllByRecursion (λ k. nat_eq n k ≡ false) (keys_of es) → changed_at change n es ≡ es
changed_none change n [] none = refl
changed_none change n (e ∷ es) none =
    ap (λ b. (if b then (e.0, change e.1) else e) ∷ changed_at change n es) none.0 ∙ ap (λ ds. e ∷ ds) (changed_none change n es none.1)

-- the changed region written over the one that the look-up found
pub changed_by_write : (change : RegionData → RegionData) (n : ℕ) (es : List Entry) (r : RegionData) → IsDistinct nat_eq (keys_of es)
    → lookup (nat_eq n) es ≡ Some r → set_value (nat_eq n) es (change r) ≡ changed_at change n es
changed_by_write change n [] r distinct there = refl
changed_by_write change n (e ∷ es) r distinct there =
    by (nat_eq n e.0) refl (changed_by_write change n es r (IsDistinct-tail nat_eq e.0 (keys_of es) distinct))
  where
    by : (b : Bool) → nat_eq n e.0 ≡ b → (lookup (nat_eq n) es ≡ Some r → set_value (nat_eq n) es (change r) ≡ changed_at change n es)
        → cond b ((e.0, change r) ∷ es) (e ∷ set_value (nat_eq n) es (change r)) ≡ (if b then (e.0, change e.1) else e) ∷ changed_at change n es
    by true is rest =
        let found : Some e.1 ≡ Some r = sym (ap (λ b. cond b (Some e.1) (lookup (nat_eq n) es)) is) ∙ there in
        let same : e.1 ≡ r = cc in
        let none = subst (λ k. AllByRecursion (λ d. nat_eq k d ≡ false) (keys_of es)) (sym (eqb-true n e.0 is)) (IsDistinct-head nat_eq e.0 (keys_of es) distinct) in
        ap (λ d. (e.0, change d) ∷ es) (sym same) ∙ ap (λ ds. (e.0, change e.1) ∷ ds) (sym (changed_none change n es none))
    by false is rest =
        ap (λ ds. e ∷ ds) (rest (sym (ap (λ b. cond b (Some e.1) (lookup (nat_eq n) es)) is) ∙ there))

-- the regions after the one that the look-up found was written over
pub written_over : (change : RegionData → RegionData) (n : ℕ) (rs : Regions) (fs : List Entry) (r w : RegionData)
    → IsDistinct nat_eq (keys_of rs.entries) → lookup (nat_eq n) rs.entries ≡ Some r → fs ≡ set_value (nat_eq n) rs.entries w
    → w ≡ change r → record rs { entries = fs } ≡ changed change n rs
written_over change n rs fs r w distinct there written same =
    ap (λ es. record rs { entries = es })
    (written ∙ ap (set_value (nat_eq n) rs.entries) same ∙ changed_by_write change n rs.entries r distinct there)

-- and after it was left as it was
pub written_back : (n : ℕ) (rs : Regions) (fs : List Entry) (r w : RegionData)
    → lookup (nat_eq n) rs.entries ≡ Some r → fs ≡ set_value (nat_eq n) rs.entries w → w ≡ r → record rs { entries = fs } ≡ rs
written_back n rs fs r w there written same =
    ap (λ es. record rs { entries = es })
    (written ∙ ap (set_value (nat_eq n) rs.entries) same ∙ set_value_same (nat_eq n) rs.entries r there)

-- the region that the look-up found is the one of the number
pub found_region : (n : ℕ) (rs : Regions) (r : RegionData) → lookup (nat_eq n) rs.entries ≡ Some r → region_at rs n ≡ Some r
unfolding region_at
found_region n rs r there = sym (lookup_is n rs.entries) ∙ there

-- two numbers are the same, or one is another
pub same_or_other : (m n : ℕ) → (m ≡ n) ⊎ (m ≢ n)
same_or_other m n = by (nat_eq m n) refl
  where
    by : (b : Bool) → nat_eq m n ≡ b → (m ≡ n) ⊎ (m ≢ n)
    by true is = inl (eqb-true m n is)
    by false is = inr (λ same. cc (eq-eqb m n same))

-- the parent of a region that is known
pub parent_at : (rs : Regions) (n : ℕ) (r : RegionData) → region_at rs n ≡ Some r → parent_of rs n ≡ r.parent
unfolding parent_of
parent_at rs n r there = ap (option_and_then (λ (d : RegionData). d.parent)) there

-- and of one that is not there
pub parent_nowhere : (rs : Regions) (n : ℕ) → region_at rs n ≡ None → parent_of rs n ≡ None
unfolding parent_of
parent_nowhere rs n none = ap (option_and_then (λ (d : RegionData). d.parent)) none

-- where there are no regions, none has the number
pub region_nowhere : (rs : Regions) → rs.entries ≡ [] → (n : ℕ) → region_at rs n ≡ None
unfolding region_at
region_nowhere rs none n = ap (λ es. option_map (λ (e : Entry). e.1) (find (λ (e : Entry). nat_eq n e.0) es)) none

-- parents are the same where the regions are
pub same_parent : (rs fs : Regions) (n : ℕ) → region_at fs n ≡ region_at rs n → parent_of fs n ≡ parent_of rs n
unfolding parent_of
same_parent rs fs n same = ap (option_and_then (λ (d : RegionData). d.parent)) same

-- a number above all that were given has no region
pub region_above : (rs : Regions) (n : ℕ) → IsNumbered rs → rs.last < n → region_at rs n ≡ None
unfolding region_at
region_above rs n numbered high = ap (option_map (λ (e : Entry). e.1)) (find_above rs.last n rs.entries numbered.given high)
