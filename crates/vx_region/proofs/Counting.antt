-- Counts of children: what a set keeps of them, and what each change leaves.
use Rattle.std.proofs.Common.{◌≡◌, ℕ, suc, ◌+◌, ◌-◌, ◌<◌, Bool, true, false, cond, nat_eq, nat_lt, bytes_eq, ◌||◌, List, [], ◌∷◌, ◌++◌, slice_get, Option, None, Some, IsSome, is_some, true≢false, arith, refl, ap, sym, ◌∙◌}
use Rattle.std.specs.List.{list_any}
use Rattle.std.specs.Map.{lookup, set_value, remove_entry}
use Rattle.std.proofs.lemmas.Bool.{eq-eqb, false_from_ne_true}
use borrow.Author.Tests.{eqb-true, ltb-false}
use Rattle.vx_name.specs.declared.id.Id.{Id}
use Rattle.vx_region.specs.Ancestry.{is_number, has_child}
use Rattle.vx_region.specs.ChildCounts.{one_if, children, children_of, Count, HasOneMore, HasOneLess, IsIdOf}
use Rattle.vx_region.specs.Forest.{IsAscending, IsForest}
use Rattle.vx_name.specs.Ids.{same_id}
use Rattle.vx_region.specs.IdIndex.{first_with}
use Rattle.vx_region.specs.Regions.{RegionData, Entry, Regions, region_at, parent_of}
use Rattle.vx_region.proofs.Lookups.{parent_at, region_at_place, known_found, found_region}

zero_more : (k : ℕ) → 0 + k ≡ k
zero_more k = omega arith

none_is_some : {X : Type 0} (o : Option X) → o ≡ None → IsSome o → ⊥
none_is_some o none some = true≢false (sym some ∙ ap is_some none)

some_is_some : {X : Type 0} (o : Option X) (x : X) → o ≡ Some x → IsSome o
some_is_some o x there = ap is_some there

-- numbers compare both ways alike
turned : (m p : ℕ) → nat_eq m p ≡ nat_eq p m
turned m p = by (nat_eq m p) refl
  where
    by : (b : Bool) → nat_eq m p ≡ b → b ≡ nat_eq p m
    by true same = sym (eq-eqb p m (sym (eqb-true m p same)))
    by false other = sym (false_from_ne_true (nat_eq p m) (λ same. true≢false (sym (eq-eqb m p (sym (eqb-true p m same))) ∙ other)))

one_more : (k : ℕ) → nat_lt 0 (1 + k) ≡ true
one_more k = by (nat_lt 0 (1 + k)) refl
  where
    by : (b : Bool) → nat_lt 0 (1 + k) ≡ b → nat_lt 0 (1 + k) ≡ true
    by true is = is
    by false is = absurd (omega (arith, ltb-false 0 (1 + k) is))

-- some region is a child where at least one is counted
pub some_counted : (n : ℕ) (es : List Entry) → nat_lt 0 (children n es) ≡ list_any (λ e. is_number n e.1.parent) es
some_counted n [] = refl
some_counted n (e ∷ es) = by (is_number n e.1.parent) (some_counted n es)
  where
    by : (b : Bool) → nat_lt 0 (children n es) ≡ list_any (λ (d : Entry). is_number n d.1.parent) es
        → nat_lt 0 (one_if b + children n es) ≡ (b || list_any (λ (d : Entry). is_number n d.1.parent) es)
    by true rest = one_more (children n es)
    by false rest = ap (nat_lt 0) (zero_more (children n es)) ∙ rest

-- without children none is counted
pub none_counted : (n : ℕ) (es : List Entry) → list_any (λ e. is_number n e.1.parent) es ≡ false → children n es ≡ 0
none_counted n es none = omega (arith, ltb-false 0 (children n es) (some_counted n es ∙ none))

-- one region taken away
pub children_without : (n m : ℕ) (r : RegionData) (es : List Entry) → lookup (nat_eq m) es ≡ Some r
    → children n es ≡ children n (remove_entry (nat_eq m) es) + one_if (is_number n r.parent)
children_without n m r [] there = cc
children_without n m r (e ∷ es) there = by (nat_eq m e.0) there (children_without n m r es)
  where
    by : (b : Bool) → cond b (Some e.1) (lookup (nat_eq m) es) ≡ Some r
        → (lookup (nat_eq m) es ≡ Some r → children n es ≡ children n (remove_entry (nat_eq m) es) + one_if (is_number n r.parent))
        → one_if (is_number n e.1.parent) + children n es ≡ children n (cond b es (e ∷ remove_entry (nat_eq m) es)) + one_if (is_number n r.parent)
    by true here rest =
        let same : e.1 ≡ r = cc in
        ap (λ (d : RegionData). one_if (is_number n d.parent) + children n es) same ∙ omega arith
    by false later rest = omega (arith, rest later)

-- one region written over
pub children_written : (n m : ℕ) (w : RegionData) (es : List Entry) → IsSome (lookup (nat_eq m) es)
    → children n (set_value (nat_eq m) es w) ≡ children n (remove_entry (nat_eq m) es) + one_if (is_number n w.parent)
children_written n m w [] there = absurd (true≢false (sym there))
children_written n m w (e ∷ es) there = by (nat_eq m e.0) there (children_written n m w es)
  where
    by : (b : Bool) → IsSome (cond b (Some e.1) (lookup (nat_eq m) es))
        → (IsSome (lookup (nat_eq m) es) → children n (set_value (nat_eq m) es w) ≡ children n (remove_entry (nat_eq m) es) + one_if (is_number n w.parent))
        → children n (cond b ((e.0, w) ∷ es) (e ∷ set_value (nat_eq m) es w)) ≡ children n (cond b es (e ∷ remove_entry (nat_eq m) es)) + one_if (is_number n w.parent)
    by true here rest = omega arith
    by false later rest = omega (arith, rest later)

-- and by one of the same parent
pub children_same : (n m : ℕ) (r w : RegionData) (es : List Entry) → lookup (nat_eq m) es ≡ Some r → w.parent ≡ r.parent
    → children n es ≡ children n (set_value (nat_eq m) es w)
children_same n m r w es there same =
    children_without n m r es there ∙ ap (λ p. children n (remove_entry (nat_eq m) es) + one_if (is_number n p)) (sym same)
    ∙ sym (children_written n m w es (some_is_some (lookup (nat_eq m) es) r there))

-- one more region, without a parent
pub children_pushed : (n : ℕ) (e : Entry) (es : List Entry) → e.1.parent ≡ None → children n (es ++ e ∷ []) ≡ children n es
children_pushed n e [] orphan = ap (λ p. one_if (is_number n p) + 0) orphan
children_pushed n e (d ∷ es) orphan = ap (λ k. one_if (is_number n d.1.parent) + k) (children_pushed n e es orphan)

-- where no region has the number as its parent, none is counted
none_among : (n : ℕ) (es : List Entry) → ((i : ℕ) (e : Entry) → slice_get es i ≡ Some e → is_number n e.1.parent ≡ false) → children n es ≡ 0
none_among n [] none = refl
none_among n (e ∷ es) none =
    ap (λ b. one_if b + children n es) (none 0 e refl) ∙ zero_more (children n es) ∙ none_among n es (λ i d there. none (suc i) d there)

-- a number that no region has is no region's parent
pub nobodys_parent : (rs : Regions) (n : ℕ) → IsForest rs → region_at rs n ≡ None → children n rs.entries ≡ 0
nobodys_parent rs n forest none = none_among n rs.entries (λ i e there. by e (e.1.parent) (parent_at rs e.0 e.1 (region_at_place rs i e.0 e.1 forest.numbered there)))
  where
    by : (e : Entry) (p : Option ℕ) → parent_of rs e.0 ≡ p → is_number n p ≡ false
    by e None has = refl
    by e (Some q) has =
        false_from_ne_true (nat_eq n q) (λ same.
        none_is_some (region_at rs q) (ap (region_at rs) (sym (eqb-true n q same)) ∙ none) (forest.parents e.0 q has))

-- the number of the first region with an id is above those before it
first_above : (n k : ℕ) (id : List ℕ) (es : List Entry) → IsAscending n es → first_with es id ≡ Some k → n < k
first_above n k id [] up first = cc
first_above n k id (e ∷ es) up first = by (bytes_eq id e.1.id) first (first_above e.0 k id es up.1)
  where
    by : (b : Bool) → cond b (Some e.0) (first_with es id) ≡ Some k → (first_with es id ≡ Some k → e.0 < k) → n < k
    by true here rest = let same : e.0 ≡ k = cc in omega (arith, same, up.0)
    by false later rest = omega (arith, rest later, up.0)

-- the number that an id has is that of a region with this id
pub first_has : (n k : ℕ) (r : RegionData) (id : List ℕ) (es : List Entry) → IsAscending n es → first_with es id ≡ Some k → lookup (nat_eq k) es ≡ Some r
    → bytes_eq id r.id ≡ true
first_has n k r id [] up first there = cc
first_has n k r id (e ∷ es) up first there = by (bytes_eq id e.1.id) refl (nat_eq k e.0) refl first there (first_has e.0 k r id es up.1)
  where
    by : (b : Bool) → bytes_eq id e.1.id ≡ b → (c : Bool) → nat_eq k e.0 ≡ c → cond b (Some e.0) (first_with es id) ≡ Some k
        → cond c (Some e.1) (lookup (nat_eq k) es) ≡ Some r
        → (first_with es id ≡ Some k → lookup (nat_eq k) es ≡ Some r → bytes_eq id r.id ≡ true) → bytes_eq id r.id ≡ true
    by true same true is first there rest = let here : e.1 ≡ r = cc in ap (λ (d : RegionData). bytes_eq id d.id) (sym here) ∙ same
    by true same false other first there rest = let here : e.0 ≡ k = cc in absurd (true≢false (sym (eq-eqb k e.0 (sym here)) ∙ other))
    by false other true is first there rest = absurd (omega (arith, first_above e.0 k id es up.1 first, eqb-true k e.0 is))
    by false other false is first there rest = rest first there

-- a number that no region has, has no children
pub no_child : (rs : Regions) (n : ℕ) → IsForest rs → region_at rs n ≡ None → false ≡ has_child rs n
unfolding has_child
no_child rs n forest none = sym (ap (nat_lt 0) (nobodys_parent rs n forest none)) ∙ some_counted n rs.entries

-- counts without a region: those that there were where it has no parent, and else one less of that
module _ (n : ℕ) (r : RegionData) (es : List Entry) (counts : List (Id × ℕ)) (there : lookup (nat_eq n) es ≡ Some r) (count : Count counts es es) where
  orphan_out : r.parent ≡ None → Count counts es (remove_entry (nat_eq n) es)
  orphan_out orphan q = count q ∙ by (first_with es q.text.bytes)
    where
      by : (o : Option ℕ) → children_of es o ≡ children_of (remove_entry (nat_eq n) es) o
      by None = refl
      by (Some m) =
          children_without m n r es there ∙ ap (λ p. children m (remove_entry (nat_eq n) es) + one_if (is_number m p)) orphan ∙ omega arith

  child_out : (p : ℕ) (id : Id) (new : List (Id × ℕ)) → r.parent ≡ Some p → IsIdOf id p es → HasOneLess id counts new
      → Count new es (remove_entry (nat_eq n) es)
  child_out p id new has is less q =
      less q ∙ ap (λ k. k - one_if (same_id id q)) (count q) ∙ ap (λ b. children_of es (first_with es q.text.bytes) - one_if b) (is q) ∙ by (first_with es q.text.bytes)
    where
      back : (b : Bool) (k : ℕ) → (k + one_if b) - one_if b ≡ k
      back true k = omega arith
      back false k = omega arith

      by : (o : Option ℕ) → children_of es o - one_if (is_number p o) ≡ children_of (remove_entry (nat_eq n) es) o
      by None = refl
      by (Some m) =
          ap (λ k. k - one_if (nat_eq p m))
          (children_without m n r es there ∙ ap (λ o. children m (remove_entry (nat_eq n) es) + one_if (is_number m o)) has
          ∙ ap (λ b. children m (remove_entry (nat_eq n) es) + one_if b) (turned m p))
          ∙ back (nat_eq p m) (children m (remove_entry (nat_eq n) es))

module _ (rs : Regions) (n : ℕ) (counts : List (Id × ℕ)) (known : IsSome (region_at rs n)) (count : Count counts rs.entries rs.entries) where
  pub counts_as_they_are : parent_of rs n ≡ None → Count counts rs.entries (remove_entry (nat_eq n) rs.entries)
  counts_as_they_are orphan = by (lookup (nat_eq n) rs.entries) refl
    where
      by : (o : Option RegionData) → lookup (nat_eq n) rs.entries ≡ o → Count counts rs.entries (remove_entry (nat_eq n) rs.entries)
      by None none = absurd (none_is_some (lookup (nat_eq n) rs.entries) none (known_found n rs known))
      by (Some r) there = orphan_out n r rs.entries counts there count (sym (parent_at rs n r (found_region n rs r there)) ∙ orphan)

  pub counts_of_fewer : (p : ℕ) (id : Id) (new : List (Id × ℕ)) → parent_of rs n ≡ Some p → IsIdOf id p rs.entries → HasOneLess id counts new
      → Count new rs.entries (remove_entry (nat_eq n) rs.entries)
  counts_of_fewer p id new has is less = by (lookup (nat_eq n) rs.entries) refl
    where
      by : (o : Option RegionData) → lookup (nat_eq n) rs.entries ≡ o → Count new rs.entries (remove_entry (nat_eq n) rs.entries)
      by None none = absurd (none_is_some (lookup (nat_eq n) rs.entries) none (known_found n rs known))
      by (Some r) there = child_out n r rs.entries counts there count p id new (sym (parent_at rs n r (found_region n rs r there)) ∙ has) is less

-- counts with the region written over: those without it where it has no parent then, and else one more of that
module _ (n : ℕ) (w : RegionData) (es : List Entry) (counts : List (Id × ℕ)) (there : IsSome (lookup (nat_eq n) es)) (count : Count counts es (remove_entry (nat_eq n) es)) where
  pub orphan_in : w.parent ≡ None → Count counts es (set_value (nat_eq n) es w)
  orphan_in orphan q = count q ∙ sym (by (first_with es q.text.bytes))
    where
      by : (o : Option ℕ) → children_of (set_value (nat_eq n) es w) o ≡ children_of (remove_entry (nat_eq n) es) o
      by None = refl
      by (Some m) =
          children_written m n w es there ∙ ap (λ p. children m (remove_entry (nat_eq n) es) + one_if (is_number m p)) orphan ∙ omega arith

  pub child_in : (p : ℕ) (id : Id) (new : List (Id × ℕ)) → w.parent ≡ Some p → IsIdOf id p es → HasOneMore id counts new
      → Count new es (set_value (nat_eq n) es w)
  child_in p id new has is more q =
      more q ∙ ap (λ k. k + one_if (same_id id q)) (count q)
      ∙ ap (λ b. children_of (remove_entry (nat_eq n) es) (first_with es q.text.bytes) + one_if b) (is q) ∙ sym (by (first_with es q.text.bytes))
    where
      by : (o : Option ℕ) → children_of (set_value (nat_eq n) es w) o ≡ children_of (remove_entry (nat_eq n) es) o + one_if (is_number p o)
      by None = refl
      by (Some m) =
          children_written m n w es there ∙ ap (λ o. children m (remove_entry (nat_eq n) es) + one_if (is_number m o)) has
          ∙ ap (λ b. children m (remove_entry (nat_eq n) es) + one_if b) (turned m p)
