-- What keeps a set of regions a forest.
use Rattle.std.proofs.Common.{◌≡◌, ◌≢◌, ◌⊎◌, inl, inr, ℕ, ◌+◌, nat_eq, List, [], ◌∷◌, Option, Some, None, IsSome, option_map, true≢false, false, arith, subst, sym, ap, refl, ◌∙◌}
use Rattle.std.specs.Map.{lookup, set_value}
use Rattle.std.specs.Bool.{⊤}
use Rattle.std.specs.List.{list_any}
use Rattle.std.specs.Option.{IfSome}
use Rattle.std.proofs.lemmas.Option.{MatchOption-at_some}
use Rattle.vx_region.specs.Ancestry.{ancestors, is_under}
use Rattle.vx_region.specs.Regions.{RegionData, Entry, Regions, region_at, parent_of, changed, with_parent}
use Rattle.vx_region.specs.Forest.{IsChain, IsForest, IsNumbered}
use Rattle.vx_region.proofs.Chains.{chain_longer, chain_same, chain_moved, ancestors_chain, chain_alone, forest_kept}
use Rattle.vx_region.proofs.Changes.{pushed, region_changed, region_elsewhere, region_pushed, region_before}
use Rattle.vx_region.proofs.Lookups.{found_region, same_or_other, parent_at, parent_nowhere, region_nowhere, same_parent, written_over}
use Rattle.vx_region.proofs.Numbers.{numbered_push, numbered_changed, distinct_numbers}

-- no regions
pub forest_empty : (rs : Regions) → rs.entries ≡ [] → IsForest rs
forest_empty rs none = record {
  numbered = subst (λ es. IsNumbered (record rs { entries = es })) (sym none) (record { ascending = tt; given = tt });
  parents = λ r q has. absurd (cc (orphan r));
  ends = λ r. (r ∷ [], chain_alone rs r (orphan r));
}
  where
    orphan : (r : ℕ) → parent_of rs r ≡ None
    orphan r = parent_nowhere rs r (region_nowhere rs none r)

-- one more region, without a parent, under the next number
pub forest_pushed : (rs : Regions) (r : RegionData) → r.parent ≡ None → IsForest rs → IsForest (pushed rs r)
forest_pushed rs r orphan forest =
    forest_kept rs fs (numbered_push rs (rs.last + 1, r) forest.numbered (omega arith)) (λ m. kept m (same_or_other m (rs.last + 1)))
    (λ m q has there. stays q there (same_or_other q (rs.last + 1))) forest
  where
    fs : Regions
    fs = pushed rs r

    kept : (m : ℕ) → (m ≡ rs.last + 1) ⊎ (m ≢ rs.last + 1) → (parent_of fs m ≡ parent_of rs m) ⊎ (parent_of fs m ≡ None)
    kept m (inl new) = inr (ap (parent_of fs) new ∙ parent_at fs (rs.last + 1) r (region_pushed rs r forest.numbered) ∙ orphan)
    kept m (inr old) = inl (same_parent rs fs m (region_before rs r m old))

    stays : (q : ℕ) → IsSome (region_at rs q) → (q ≡ rs.last + 1) ⊎ (q ≢ rs.last + 1) → IsSome (region_at fs q)
    stays q there (inl new) = subst IsSome (sym (ap (region_at fs) new ∙ region_pushed rs r forest.numbered)) refl
    stays q there (inr old) = subst IsSome (sym (region_before rs r q old)) there

-- a changed region is where it was
pub stays_changed : (change : RegionData → RegionData) (n : ℕ) (rs : Regions) (q : ℕ) → IsSome (region_at rs q)
    → IsSome (region_at (changed change n rs) q)
stays_changed change n rs q there = by (same_or_other q n)
  where
    still : (o : Option RegionData) → IsSome o → IsSome (option_map change o)
    still None there = there
    still (Some r) there = refl

    by : (q ≡ n) ⊎ (q ≢ n) → IsSome (region_at (changed change n rs) q)
    by (inl same) =
        let fs = changed change n rs in
        let is = ap (region_at fs) same ∙ region_changed change n rs ∙ ap (λ k. option_map change (region_at rs k)) (sym same) in
        subst IsSome (sym is) (still (region_at rs q) there)
    by (inr other) = subst IsSome (sym (region_elsewhere change n q rs other)) there

-- the parent of a changed region
pub parent_changed : (change : RegionData → RegionData) (n : ℕ) (rs : Regions) (r : RegionData) → region_at rs n ≡ Some r
    → parent_of (changed change n rs) n ≡ (change r).parent
parent_changed change n rs r there =
    parent_at (changed change n rs) n (change r) (region_changed change n rs ∙ ap (option_map change) there)

-- the ancestry does not meet a number
not_under : (rs : Regions) (r a : ℕ) → is_under rs r a ≡ false → list_any (nat_eq a) (ancestors rs r) ≡ false
unfolding is_under
not_under rs r a free = free

-- a region changed that keeps its parent
pub forest_changed : (change : RegionData → RegionData) (n : ℕ) (rs : Regions) (r : RegionData) → region_at rs n ≡ Some r
    → (change r).parent ≡ r.parent → IsForest rs → IsForest (changed change n rs)
forest_changed change n rs r there keeps forest =
    forest_kept rs (changed change n rs) (numbered_changed change n rs forest.numbered) (λ m. inl (same m (same_or_other m n)))
    (λ m q has. stays_changed change n rs q) forest
  where
    same : (m : ℕ) → (m ≡ n) ⊎ (m ≢ n) → parent_of (changed change n rs) m ≡ parent_of rs m
    same m (inl here) =
        ap (parent_of (changed change n rs)) here ∙ parent_changed change n rs r there ∙ keeps
        ∙ sym (parent_at rs n r there) ∙ ap (parent_of rs) (sym here)
    same m (inr other) = same_parent rs (changed change n rs) m (region_elsewhere change n m rs other)

-- the region that the look-up found written over, with the same parent
pub forest_written : (n : ℕ) (rs : Regions) (fs : List Entry) (r w : RegionData)
    → lookup (nat_eq n) rs.entries ≡ Some r → fs ≡ set_value (nat_eq n) rs.entries w → w.parent ≡ r.parent
    → IsForest rs → IsForest (record rs { entries = fs })
forest_written n rs fs r w there written same forest =
    let over = written_over (λ _. w) n rs fs r w (distinct_numbers 0 rs.entries forest.numbered.ascending) there written refl in
    subst IsForest (sym over) (forest_changed (λ _. w) n rs r (found_region n rs r there) same forest)

-- a region with another parent, or with none
module _ (rs : Regions) (n : ℕ) (p : Option ℕ) (d : RegionData) (there : region_at rs n ≡ Some d) (forest : IsForest rs) where
  abbrev fs : Regions
  fs = changed (λ r. record r { parent = p }) n rs

  own : parent_of fs n ≡ p
  own = parent_changed (λ r. record r { parent = p }) n rs d there

  others : (m : ℕ) → m ≢ n → parent_of fs m ≡ parent_of rs m
  others m other = same_parent rs fs m (region_elsewhere (λ r. record r { parent = p }) n m rs other)

  forest_orphaned : p ≡ None → IsForest fs
  forest_orphaned none =
      forest_kept rs fs (numbered_changed (λ r. record r { parent = p }) n rs forest.numbered) (λ m. by m (same_or_other m n))
      (λ m q has. stays_changed (λ r. record r { parent = p }) n rs q) forest
    where
      by : (m : ℕ) → (m ≡ n) ⊎ (m ≢ n) → (parent_of fs m ≡ parent_of rs m) ⊎ (parent_of fs m ≡ None)
      by m (inl here) = inr (ap (parent_of fs) here ∙ own ∙ none)
      by m (inr other) = inl (others m other)

  forest_adopted : (q : ℕ) → p ≡ Some q → IsSome (region_at rs q) → is_under rs q n ≡ false → IsForest fs
  forest_adopted q has known free = record {
    numbered = numbered_changed (λ r. record r { parent = p }) n rs forest.numbered;
    parents = λ m k is. stays_changed (λ r. record r { parent = p }) n rs k (by m k is (same_or_other m n));
    ends = λ r. let l = forest.ends r in chain_moved rs fs n (n ∷ ancestors rs q) others chain r l.0 l.1;
  }
    where
      chain : IsChain fs n (n ∷ ancestors rs q)
      chain =
          chain_longer fs n q (ancestors rs q) (own ∙ has)
          (chain_same rs fs n others q (ancestors rs q) (ancestors_chain rs forest q) (not_under rs q n free))

      by : (m k : ℕ) → parent_of fs m ≡ Some k → (m ≡ n) ⊎ (m ≢ n) → IsSome (region_at rs k)
      by m k is (inl here) =
          let both : Some k ≡ Some q = sym is ∙ ap (parent_of fs) here ∙ own ∙ has in
          let same : k ≡ q = cc in
          subst (λ i. IsSome (region_at rs i)) (sym same) known
      by m k is (inr other) = forest.parents m k (sym (others m other) ∙ is)

-- a region with another parent that is there and not under it, or with none
pub forest_parented : (rs : Regions) (n : ℕ) (p : Option ℕ) → IsSome (region_at rs n) → IfSome p (λ q. IsSome (region_at rs q))
    → IfSome p (λ q. is_under rs q n ≡ false) → IsForest rs → IsForest (with_parent rs n p)
unfolding with_parent
forest_parented rs n p there known free forest = by (region_at rs n) refl there p refl
  where
    by : (o : Option RegionData) → region_at rs n ≡ o → IsSome o → (s : Option ℕ) → p ≡ s
        → IsForest (changed (λ r. record r { parent = p }) n rs)
    by None is some s has = absurd (true≢false (sym some))
    by (Some d) is some None none = forest_orphaned rs n p d is forest none
    by (Some d) is some (Some q) has =
        forest_adopted rs n p d is forest q has (MatchOption-at_some ⊤ (λ k. IsSome (region_at rs k)) q has known)
        (MatchOption-at_some ⊤ (λ k. is_under rs k n ≡ false) q has free)

-- what is said of a number where there is one
pub if_numbered : {X : Type 0} (f : X → ℕ) (P : ℕ → Type 0) (o : Option X) → IfSome o (λ x. P (f x)) → IfSome (option_map f o) P
if_numbered f P None said = said
if_numbered f P (Some x) said = said
