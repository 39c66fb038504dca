-- What the removal of a region leaves.
use Rattle.std.proofs.Common.{◌≡◌, ◌≢◌, ◌⊎◌, inl, inr, ℕ, Bool, true, false, cond, nat_eq, not, List, [], ◌∷◌, find, filter, Option, None, Some, IsSome, option_map, true≢false, refl, ap, sym, ◌∙◌, subst}
use Rattle.std.specs.List.{list_any, AllByRecursion, IsDistinct}
use Rattle.std.specs.Map.{remove_entry, keys_of}
use Rattle.std.proofs.lemmas.Bool.{ne_eqb, eq-eqb}
use Rattle.std.proofs.lemmas.Map.Keys.{IsDistinct-head, IsDistinct-tail}
use borrow.Author.Tests.{eqb-true}
use Rattle.vx_region.specs.Ancestry.{is_number, has_child}
use Rattle.vx_region.specs.Forest.{IsForest}
use Rattle.vx_region.specs.Regions.{RegionData, Entry, Regions, region_at, parent_of, without_region}
use Rattle.vx_region.proofs.Chains.{forest_kept, neither}
use Rattle.vx_region.proofs.Lookups.{same_or_other, parent_at, parent_nowhere, same_parent}
use Rattle.vx_region.proofs.Numbers.{numbered_filtered, distinct_numbers}

-- the entry has another number
abbrev pub is_other : ℕ → Entry → Bool
is_other n e = not (nat_eq n e.0)

-- where no entry has the number, nothing is taken away
filter_none : (n : ℕ) (es : List Entry) → AllByRecursion (λ k. nat_eq n k ≡ false) (keys_of es) → filter (is_other n) es ≡ es
filter_none n [] none = refl
filter_none n (e ∷ es) none =
    ap (λ b. cond (not b) (e ∷ filter (is_other n) es) (filter (is_other n) es)) none.0 ∙ ap (λ ds. e ∷ ds) (filter_none n es none.1)

-- the map takes away the one entry of the number
pub removed_is : (n : ℕ) (es : List Entry) → IsDistinct nat_eq (keys_of es) → remove_entry (nat_eq n) es ≡ filter (is_other n) es
removed_is n [] distinct = refl
removed_is n (e ∷ es) distinct = by (nat_eq n e.0) refl (removed_is n es (IsDistinct-tail nat_eq e.0 (keys_of es) distinct))
  where
    by : (b : Bool) → nat_eq n e.0 ≡ b → remove_entry (nat_eq n) es ≡ filter (is_other n) es
        → cond b es (e ∷ remove_entry (nat_eq n) es) ≡ cond (not b) (e ∷ filter (is_other n) es) (filter (is_other n) es)
    by true is rest =
        let apart = λ (k : ℕ). AllByRecursion (λ d. nat_eq k d ≡ false) (keys_of es) in
        sym (filter_none n es (subst apart (sym (eqb-true n e.0 is)) (IsDistinct-head nat_eq e.0 (keys_of es) distinct)))
    by false is rest = ap (λ ds. e ∷ ds) rest

-- the number is found no more
found_removed : (n : ℕ) (es : List Entry) → find (λ e. nat_eq n e.0) (filter (is_other n) es) ≡ None
found_removed n [] = refl
found_removed n (e ∷ es) = by (nat_eq n e.0) refl (found_removed n es)
  where
    by : (b : Bool) → nat_eq n e.0 ≡ b → find (λ (d : Entry). nat_eq n d.0) (filter (is_other n) es) ≡ None
        → find (λ (d : Entry). nat_eq n d.0) (cond (not b) (e ∷ filter (is_other n) es) (filter (is_other n) es)) ≡ None
    by true is rest = rest
    by false is rest = ap (λ b. cond b (Some e) (find (λ (d : Entry). nat_eq n d.0) (filter (is_other n) es))) is ∙ rest

-- each other number is found as before
found_beside : (n m : ℕ) (es : List Entry) → m ≢ n → find (λ e. nat_eq m e.0) (filter (is_other n) es) ≡ find (λ e. nat_eq m e.0) es
found_beside n m [] other = refl
found_beside n m (e ∷ es) other = by (nat_eq n e.0) refl (found_beside n m es other)
  where
    found : List Entry → Option Entry
    found ds = find (λ (d : Entry). nat_eq m d.0) ds

    by : (b : Bool) → nat_eq n e.0 ≡ b → found (filter (is_other n) es) ≡ found es
        → found (cond (not b) (e ∷ filter (is_other n) es) (filter (is_other n) es)) ≡ cond (nat_eq m e.0) (Some e) (found es)
    by true is rest =
        rest ∙ sym (ap (λ b. cond b (Some e) (found es)) (ne_eqb m e.0 (λ same. other (same ∙ sym (eqb-true n e.0 is)))))
    by false is rest = ap (cond (nat_eq m e.0) (Some e)) rest

-- the region of the number after a removal, and those of the others
pub region_removed : (rs : Regions) (n : ℕ) → region_at (without_region rs n) n ≡ None
unfolding region_at without_region
region_removed rs n = ap (option_map (λ (e : Entry). e.1)) (found_removed n rs.entries)

pub region_beside : (rs : Regions) (n m : ℕ) → m ≢ n → region_at (without_region rs n) m ≡ region_at rs m
unfolding region_at without_region
region_beside rs n m other = ap (option_map (λ (e : Entry). e.1)) (found_beside n m rs.entries other)

-- a region that is found has a parent that is among the parents
found_parent : (n r : ℕ) (d : RegionData) (es : List Entry) → option_map (λ e. e.1) (find (λ e. nat_eq r e.0) es) ≡ Some d
    → list_any (λ e. is_number n e.1.parent) es ≡ false → is_number n d.parent ≡ false
found_parent n r d [] there none = cc
found_parent n r d (e ∷ es) there none =
    by (nat_eq r e.0) there (neither (is_number n e.1.parent) others none) (found_parent n r d es)
  where
    found : Option RegionData
    found = option_map (λ (a : Entry). a.1) (find (λ (a : Entry). nat_eq r a.0) es)

    others : Bool
    others = list_any (λ (a : Entry). is_number n a.1.parent) es

    by : (b : Bool) → option_map (λ (a : Entry). a.1) (cond b (Some e) (find (λ (a : Entry). nat_eq r a.0) es)) ≡ Some d
        → (is_number n e.1.parent ≡ false) × (others ≡ false) → (found ≡ Some d → others ≡ false → is_number n d.parent ≡ false)
        → is_number n d.parent ≡ false
    by true here none rest = let same : e.1 ≡ d = cc in subst (λ a. is_number n a.parent ≡ false) same none.0
    by false later none rest = rest later none.1

-- a region without children is no region's parent
pub not_parent : (rs : Regions) (n r q : ℕ) → has_child rs n ≡ false → parent_of rs r ≡ Some q → q ≢ n
unfolding has_child region_at
not_parent rs n r q childless has same = by (region_at rs r) refl
  where
    by : (o : Option RegionData) → region_at rs r ≡ o → ⊥
    by None none = cc (parent_nowhere rs r none)
    by (Some d) there =
        let parent : d.parent ≡ Some q = sym (parent_at rs r d there) ∙ has in
        true≢false (sym (eq-eqb n q (sym same)) ∙ sym (ap (is_number n) parent) ∙ found_parent n r d rs.entries there childless)

-- without a region that has no children a set stays a forest
pub forest_without : (rs : Regions) (n : ℕ) → has_child rs n ≡ false → IsForest rs → IsForest (without_region rs n)
unfolding without_region
forest_without rs n childless forest =
    forest_kept rs (without_region rs n) (numbered_filtered (is_other n) rs forest.numbered) (λ m. by m (same_or_other m n))
    (λ m q has there. subst IsSome (sym (region_beside rs n q (not_parent rs n m q childless has))) there) forest
  where
    by : (m : ℕ) → (m ≡ n) ⊎ (m ≢ n) → (parent_of (without_region rs n) m ≡ parent_of rs m) ⊎ (parent_of (without_region rs n) m ≡ None)
    by m (inl here) = inr (parent_nowhere (without_region rs n) m (ap (region_at (without_region rs n)) here ∙ region_removed rs n))
    by m (inr other) = inl (same_parent rs (without_region rs n) m (region_beside rs n m other))

-- the regions after the map took one away
pub removed_from : (rs : Regions) (n : ℕ) (fs : List Entry) → IsForest rs → fs ≡ remove_entry (nat_eq n) rs.entries
    → record rs { entries = fs } ≡ without_region rs n
unfolding without_region
removed_from rs n fs forest removed =
    ap (λ es. record rs { entries = es }) (removed ∙ removed_is n rs.entries (distinct_numbers 0 rs.entries forest.numbered.ascending))
