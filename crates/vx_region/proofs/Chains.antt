-- Chains of parents.
use Rattle.std.proofs.Common.{◌≡◌, ◌≢◌, ◌⊎◌, inl, inr, ℕ, zero, suc, ◌<◌, ◌≤◌, Bool, true, false, nat_eq, nat_lt, ◌||◌, List, [], ◌∷◌, ◌++◌, length, Option, None, Some, IsSome, is_some, arith, true≢false, refl, ap, sym, ◌∙◌, subst}
use Rattle.std.specs.List.{list_any, AllByRecursion, IsDistinct}
use Rattle.std.specs.Option.{MatchOption}
use Rattle.std.proofs.lemmas.Bool.{eq-eqb, ltb-true, ltb-false, false_from_ne_true}
use Rattle.std.proofs.lemmas.List.{length-append}
use Rattle.std.proofs.lemmas.List.Folds.{list_any-append}
use Rattle.std.proofs.Math.Bool.{or-true}
use Rattle.std.proofs.lemmas.Map.Steps.{length-le_from_distinct_below}
use Rattle.std.proofs.lemmas.Option.{MatchOption-at_none, MatchOption-at_some}
use borrow.Author.Tests.{eqb-true}
use Rattle.vx_region.specs.Ancestry.{is_under, is_above, proper_ancestors, chain, from_parent, ancestors}
use Rattle.vx_region.specs.Regions.{RegionData, Regions, region_at, parent_of}
use Rattle.vx_region.specs.Forest.{IsChain, IsForest, IsNumbered}
use Rattle.vx_region.proofs.Lookups.{parent_at, same_or_other, parent_nowhere, region_above}

-- a region without a parent is a chain alone
chain_last : (rs : Regions) (r : ℕ) (l : List ℕ) → l ≡ [] → parent_of rs r ≡ None → IsChain rs r (r ∷ l)
chain_last rs r l end none = (refl, subst (λ o. MatchOption o (l ≡ []) (λ q. IsChain rs q l)) (sym none) end)

pub chain_alone : (rs : Regions) (r : ℕ) → parent_of rs r ≡ None → IsChain rs r (r ∷ [])
chain_alone rs r none = chain_last rs r [] refl none

-- and its chain has no more
pub chain_end : (rs : Regions) (r a : ℕ) (l : List ℕ) → parent_of rs r ≡ None → IsChain rs r (a ∷ l) → l ≡ []
chain_end rs r a l none chain = MatchOption-at_none (l ≡ []) (λ q. IsChain rs q l) none chain.1

-- a region stands before the chain of its parent
pub chain_longer : (rs : Regions) (r q : ℕ) (l : List ℕ) → parent_of rs r ≡ Some q → IsChain rs q l → IsChain rs r (r ∷ l)
chain_longer rs r q l has chain = (refl, subst (λ o. MatchOption o (l ≡ []) (λ p. IsChain rs p l)) (sym has) chain)

-- and what follows it is that chain
pub chain_up : (rs : Regions) (r q a : ℕ) (l : List ℕ) → parent_of rs r ≡ Some q → IsChain rs r (a ∷ l) → IsChain rs q l
chain_up rs r q a l has chain = MatchOption-at_some (l ≡ []) (λ p. IsChain rs p l) q has chain.1

-- each region has the parent that it had, or none
abbrev pub KeepsParents : Regions → Regions → Type 0
KeepsParents rs fs = (r : ℕ) → (parent_of fs r ≡ parent_of rs r) ⊎ (parent_of fs r ≡ None)

-- then each chain ends as before or earlier
pub chain_kept : (rs fs : Regions) → KeepsParents rs fs → (r : ℕ) (l : List ℕ) → IsChain rs r l → (k : List ℕ) × IsChain fs r k
chain_kept rs fs kept r [] chain = absurd chain
chain_kept rs fs kept r (a ∷ l) chain = by (kept r) (parent_of rs r) refl (λ q. chain_kept rs fs kept q l)
  where
    by : (parent_of fs r ≡ parent_of rs r) ⊎ (parent_of fs r ≡ None) → (o : Option ℕ) → parent_of rs r ≡ o
        → ((q : ℕ) → IsChain rs q l → (k : List ℕ) × IsChain fs q k) → (k : List ℕ) × IsChain fs r k
    by (inr none) o is rest = (r ∷ [], chain_alone fs r none)
    by (inl same) None is rest = (r ∷ [], chain_alone fs r (same ∙ is))
    by (inl same) (Some q) is rest =
        let more = rest q (chain_up rs r q a l is chain) in
        (r ∷ more.0, chain_longer fs r q more.0 (same ∙ is) more.1)

-- a set whose regions keep their parents stays a forest, as long as the parents stay
pub forest_kept : (rs fs : Regions) → IsNumbered fs → KeepsParents rs fs
    → ((r q : ℕ) → parent_of rs r ≡ Some q → IsSome (region_at rs q) → IsSome (region_at fs q)) → IsForest rs → IsForest fs
forest_kept rs fs numbered kept stays forest = record {
  numbered = numbered;
  parents = λ r q has. by r q has (kept r);
  ends = λ r. let l = forest.ends r in chain_kept rs fs kept r l.0 l.1;
}
  where
    by : (r q : ℕ) → parent_of fs r ≡ Some q → (parent_of fs r ≡ parent_of rs r) ⊎ (parent_of fs r ≡ None) → IsSome (region_at fs q)
    by r q has (inl same) = stays r q (sym same ∙ has) (forest.parents r q (sym same ∙ has))
    by r q has (inr none) = cc

-- a region has one chain
pub same_chain : (rs : Regions) (r : ℕ) (l k : List ℕ) → IsChain rs r l → IsChain rs r k → l ≡ k
same_chain rs r [] k one two = absurd one
same_chain rs r (a ∷ l) [] one two = absurd two
same_chain rs r (a ∷ l) (b ∷ k) one two = by (parent_of rs r) refl (λ q. same_chain rs q l k)
  where
    front : l ≡ k → a ∷ l ≡ b ∷ k
    front same = cc

    by : (o : Option ℕ) → parent_of rs r ≡ o → ((q : ℕ) → IsChain rs q l → IsChain rs q k → l ≡ k) → a ∷ l ≡ b ∷ k
    by None none more = front (chain_end rs r a l none one ∙ sym (chain_end rs r b k none two))
    by (Some q) has more = front (more q (chain_up rs r q a l has one) (chain_up rs r q b k has two))

-- a list ends in the chain of a
pub record EndsIn (rs : Regions) (a : ℕ) (l : List ℕ) : Type 0 where
  pub front : List ℕ
  pub rest : List ℕ
  pub whole : l ≡ front ++ rest
  pub chain : IsChain rs a rest

-- a number on the tail of a list, where it is not the head
on_tail : (a b : ℕ) (l : List ℕ) → nat_eq a b ≡ false → list_any (nat_eq a) (b ∷ l) ≡ true → list_any (nat_eq a) l ≡ true
on_tail a b l other is = sym (ap (λ t. t || list_any (nat_eq a) l) other) ∙ is

-- no number is on an empty list
not_on_none : (a : ℕ) (l : List ℕ) → l ≡ [] → list_any (nat_eq a) l ≡ true → ⊥
not_on_none a l none is = true≢false (sym is ∙ ap (list_any (nat_eq a)) none)

-- from each number on it, a chain is that number's own
pub rest_of : (rs : Regions) (r a : ℕ) (l : List ℕ) → IsChain rs r l → list_any (nat_eq a) l ≡ true → EndsIn rs a l
rest_of rs r a [] chain is = absurd chain
rest_of rs r a (b ∷ l) chain is = by (nat_eq a b) refl (parent_of rs r) refl (λ q. rest_of rs q a l)
  where
    by : (t : Bool) → nat_eq a b ≡ t → (o : Option ℕ) → parent_of rs r ≡ o
        → ((q : ℕ) → IsChain rs q l → list_any (nat_eq a) l ≡ true → EndsIn rs a l) → EndsIn rs a (b ∷ l)
    by true same o has more =
        let own = subst (λ n. IsChain rs n (b ∷ l)) (sym chain.0 ∙ sym (eqb-true a b same)) chain in
        record { front = []; rest = b ∷ l; whole = refl; chain = own }
    by false other None none more = absurd (not_on_none a l (chain_end rs r b l none chain) (on_tail a b l other is))
    by false other (Some q) has more =
        let up = more q (chain_up rs r q b l has chain) (on_tail a b l other is) in
        record { front = b ∷ up.front; rest = up.rest; whole = ap (λ m. b ∷ m) up.whole; chain = up.chain }

-- no chain comes back to where it began
pub no_return : (rs : Regions) (r a : ℕ) (l : List ℕ) → IsChain rs r (a ∷ l) → list_any (nat_eq r) l ≡ false
no_return rs r a l chain = false_from_ne_true (list_any (nat_eq r) l) (by (parent_of rs r) refl)
  where
    by : (o : Option ℕ) → parent_of rs r ≡ o → list_any (nat_eq r) l ≡ true → ⊥
    by None none is = not_on_none r l (chain_end rs r a l none chain) is
    by (Some q) has is =
        let up = rest_of rs q r l (chain_up rs r q a l has chain) is in
        let same = same_chain rs r (a ∷ l) up.rest chain up.chain in
        omega (arith, ap length same, ap length up.whole, length-append up.front up.rest)

-- where neither holds, each fails
pub neither : (a b : Bool) → (a || b) ≡ false → (a ≡ false) × (b ≡ false)
neither true b none = absurd (true≢false none)
neither false b none = (refl, none)

-- a number apart from a list, and the list without doubles
all_apart : (r : ℕ) (l : List ℕ) → list_any (nat_eq r) l ≡ false → AllByRecursion (λ k. nat_eq r k ≡ false) l
all_apart r [] none = tt
all_apart r (k ∷ l) none = let parts = neither (nat_eq r k) (list_any (nat_eq r) l) none in (parts.0, all_apart r l parts.1)

distinct_none : (l : List ℕ) → l ≡ [] → IsDistinct nat_eq l
unfolding IsDistinct
distinct_none l none = subst (IsDistinct nat_eq) (sym none) tt

distinct_more : (r : ℕ) (l : List ℕ) → list_any (nat_eq r) l ≡ false → IsDistinct nat_eq l → IsDistinct nat_eq (r ∷ l)
unfolding IsDistinct
distinct_more r l apart rest = (all_apart r l apart, rest)

-- no number stands twice on a chain
pub distinct_chain : (rs : Regions) (r : ℕ) (l : List ℕ) → IsChain rs r l → IsDistinct nat_eq l
distinct_chain rs r [] chain = absurd chain
distinct_chain rs r (a ∷ l) chain =
    distinct_more a l (subst (λ n. list_any (nat_eq n) l ≡ false) (sym chain.0) (no_return rs r a l chain))
    (by (parent_of rs r) refl (λ q. distinct_chain rs q l))
  where
    by : (o : Option ℕ) → parent_of rs r ≡ o → ((q : ℕ) → IsChain rs q l → IsDistinct nat_eq l) → IsDistinct nat_eq l
    by None none more = distinct_none l (chain_end rs r a l none chain)
    by (Some q) has more = more q (chain_up rs r q a l has chain)

-- the chain of a region that is there has only regions that are there
pub known_along : (rs : Regions) → IsForest rs → (r : ℕ) (l : List ℕ) → IsSome (region_at rs r) → IsChain rs r l
    → (a : ℕ) → list_any (nat_eq a) l ≡ true → IsSome (region_at rs a)
known_along rs forest r [] there chain a is = absurd chain
known_along rs forest r (b ∷ l) there chain a is = by (nat_eq a b) refl (parent_of rs r) refl (λ q. known_along rs forest q l)
  where
    by : (t : Bool) → nat_eq a b ≡ t → (o : Option ℕ) → parent_of rs r ≡ o
        → ((q : ℕ) → IsSome (region_at rs q) → IsChain rs q l → (a : ℕ) → list_any (nat_eq a) l ≡ true → IsSome (region_at rs a))
        → IsSome (region_at rs a)
    by true same o has more = subst (λ n. IsSome (region_at rs n)) (sym chain.0 ∙ sym (eqb-true a b same)) there
    by false other None none more = absurd (not_on_none a l (chain_end rs r b l none chain) (on_tail a b l other is))
    by false other (Some q) has more = more q (forest.parents r q has) (chain_up rs r q b l has chain) a (on_tail a b l other is)

-- a region that is there has a number that was given
pub known_below : (rs : Regions) → IsNumbered rs → (n : ℕ) → IsSome (region_at rs n) → n ≤ rs.last
known_below rs numbered n there = by (nat_lt rs.last n) refl
  where
    by : (b : Bool) → nat_lt rs.last n ≡ b → n ≤ rs.last
    by true high = absurd (true≢false (sym there ∙ ap is_some (region_above rs n numbered (ltb-true rs.last n high))))
    by false low = ltb-false rs.last n low

-- a chain is at most one longer than the last number
pub chain_fits : (rs : Regions) → IsForest rs → (r : ℕ) (l : List ℕ) → IsChain rs r l → length l ≤ suc rs.last
chain_fits rs forest r [] chain = absurd chain
chain_fits rs forest r (a ∷ l) chain = by (region_at rs r) refl
  where
    by : (o : Option RegionData) → region_at rs r ≡ o → length (a ∷ l) ≤ suc rs.last
    by None none = omega (arith, ap length (chain_end rs r a l (parent_nowhere rs r none) chain))
    by (Some d) there =
        length-le_from_distinct_below (a ∷ l) (suc rs.last) (distinct_chain rs r (a ∷ l) chain)
        (λ q is. omega (arith, known_below rs forest.numbered q (known_along rs forest r (a ∷ l) (ap is_some there) chain q is)))

-- as many steps as a chain has numbers are enough for the whole
pub chain_whole : (rs : Regions) (n r : ℕ) (l : List ℕ) → IsChain rs r l → length l ≤ n → chain n rs r ≡ l
chain_whole rs n r [] whole fits = absurd whole
chain_whole rs zero r (a ∷ l) whole fits = absurd (omega arith)
chain_whole rs (suc n) r (a ∷ l) whole fits = by (parent_of rs r) refl (λ q is. chain_whole rs n q l is (omega arith))
  where
    by : (o : Option ℕ) → parent_of rs r ≡ o → ((q : ℕ) → IsChain rs q l → chain n rs q ≡ l)
        → r ∷ from_parent (chain n rs) (parent_of rs r) ≡ a ∷ l
    by None none more = ap (λ o. r ∷ from_parent (chain n rs) o) none ∙ cc (chain_end rs r a l none whole, whole.0)
    by (Some q) has more = ap (λ o. r ∷ from_parent (chain n rs) o) has ∙ cc (more q (chain_up rs r q a l has whole), whole.0)

-- the ancestry of a region is its chain
pub ancestors_whole : (rs : Regions) → IsForest rs → (r : ℕ) (l : List ℕ) → IsChain rs r l → ancestors rs r ≡ l
unfolding ancestors
ancestors_whole rs forest r l whole = chain_whole rs (suc rs.last) r l whole (chain_fits rs forest r l whole)

-- and so its ancestry is a chain
pub ancestors_chain : (rs : Regions) → IsForest rs → (r : ℕ) → IsChain rs r (ancestors rs r)
ancestors_chain rs forest r = let l = forest.ends r in subst (IsChain rs r) (sym (ancestors_whole rs forest r l.0 l.1)) l.1

-- a region, and then the ancestry of its parent
pub ancestors_by_parent : (rs : Regions) → IsForest rs → (r : ℕ) → ancestors rs r ≡ r ∷ from_parent (ancestors rs) (parent_of rs r)
ancestors_by_parent rs forest r = by (parent_of rs r) refl
  where
    by : (o : Option ℕ) → parent_of rs r ≡ o → ancestors rs r ≡ r ∷ from_parent (ancestors rs) (parent_of rs r)
    by None none = ancestors_whole rs forest r (r ∷ []) (chain_alone rs r none) ∙ sym (ap (λ o. r ∷ from_parent (ancestors rs) o) none)
    by (Some q) has =
        ancestors_whole rs forest r (r ∷ ancestors rs q) (chain_longer rs r q (ancestors rs q) has (ancestors_chain rs forest q))
        ∙ sym (ap (λ o. r ∷ from_parent (ancestors rs) o) has)

-- the ancestry of a region that is known
pub ancestors_of_known : (rs : Regions) → IsForest rs → (n : ℕ) (d : RegionData) → region_at rs n ≡ Some d
    → ancestors rs n ≡ n ∷ proper_ancestors rs d
ancestors_of_known rs forest n d there =
    ancestors_by_parent rs forest n ∙ ap (λ o. n ∷ from_parent (ancestors rs) o) (parent_at rs n d there)

-- from an ancestor of a region on, the ancestry is the ancestor's own
pub above_rest : (rs : Regions) → IsForest rs → (a : ℕ) (d : RegionData) → is_above rs a d ≡ true → EndsIn rs a (proper_ancestors rs d)
unfolding is_above
above_rest rs forest a d above = by d.parent above
  where
    by : (o : Option ℕ) → list_any (nat_eq a) (from_parent (ancestors rs) o) ≡ true → EndsIn rs a (from_parent (ancestors rs) o)
    by None is = absurd (true≢false (sym is))
    by (Some q) is = rest_of rs q a (ancestors rs q) (ancestors_chain rs forest q) is

-- no region is above itself
pub above_irreflexive : (rs : Regions) → IsForest rs → (n : ℕ) (d : RegionData) → region_at rs n ≡ Some d → is_above rs n d ≡ false
unfolding is_above
above_irreflexive rs forest n d there =
    no_return rs n n (proper_ancestors rs d) (subst (IsChain rs n) (ancestors_of_known rs forest n d there) (ancestors_chain rs forest n))

-- what is above b is above each region that b is above
pub above_transitive : (rs : Regions) → IsForest rs → (a b : ℕ) (d e : RegionData) → region_at rs b ≡ Some d
    → is_above rs a d ≡ true → is_above rs b e ≡ true → is_above rs a e ≡ true
unfolding is_above
above_transitive rs forest a b d e there first second =
    let up = above_rest rs forest b e second in
    let same = sym (ancestors_whole rs forest b up.rest up.chain) ∙ ancestors_of_known rs forest b d there in
    ap (list_any (nat_eq a)) (up.whole ∙ ap (λ l. up.front ++ l) same) ∙ list_any-append (nat_eq a) up.front (b ∷ proper_ancestors rs d)
    ∙ ap (λ t. list_any (nat_eq a) up.front || (nat_eq a b || t)) first ∙ ap (λ t. list_any (nat_eq a) up.front || t) (or-true (nat_eq a b))
    ∙ or-true (list_any (nat_eq a) up.front)

-- of two regions at most one is above the other
pub above_asymmetric : (rs : Regions) → IsForest rs → (a b : ℕ) (d e : RegionData) → region_at rs a ≡ Some d → region_at rs b ≡ Some e
    → is_above rs a e ≡ true → is_above rs b d ≡ false
above_asymmetric rs forest a b d e one two above =
    false_from_ne_true (is_above rs b d)
    (λ back. true≢false (sym (above_transitive rs forest a b e d two above back) ∙ above_irreflexive rs forest a d one))

-- an ancestor of a region that is there is there
pub above_known : (rs : Regions) → IsForest rs → (a b : ℕ) (d : RegionData) → region_at rs b ≡ Some d → is_above rs a d ≡ true
    → IsSome (region_at rs a)
unfolding is_above
above_known rs forest a b d there above =
    known_along rs forest b (b ∷ proper_ancestors rs d) (ap is_some there)
    (subst (IsChain rs b) (ancestors_of_known rs forest b d there) (ancestors_chain rs forest b)) a
    (ap (λ t. nat_eq a b || t) above ∙ or-true (nat_eq a b))

-- the ancestry of an ancestor is shorter
pub above_shorter : (rs : Regions) → IsForest rs → (a b : ℕ) (d : RegionData) → region_at rs b ≡ Some d → is_above rs a d ≡ true
    → length (ancestors rs a) < length (ancestors rs b)
above_shorter rs forest a b d there above =
    let up = above_rest rs forest a d above in
    omega (
      arith,
      ap length (ancestors_whole rs forest a up.rest up.chain),
      ap length (ancestors_of_known rs forest b d there),
      ap length up.whole,
      length-append up.front up.rest,
    )

-- a number is on the ancestry of a region where it is the region's own, or is above it
pub under_splits : (rs : Regions) → IsForest rs → (a b : ℕ) (d : RegionData) → region_at rs b ≡ Some d
    → is_under rs b a ≡ (nat_eq a b || is_above rs a d)
unfolding is_under is_above
under_splits rs forest a b d there = ap (list_any (nat_eq a)) (ancestors_of_known rs forest b d there)

-- where all parents but one are as before, a chain that does not meet that region stays
pub chain_same : (rs fs : Regions) (n : ℕ) → ((m : ℕ) → m ≢ n → parent_of fs m ≡ parent_of rs m) → (r : ℕ) (l : List ℕ) → IsChain rs r l
    → list_any (nat_eq n) l ≡ false → IsChain fs r l
chain_same rs fs n same r [] chain free = absurd chain
chain_same rs fs n same r (a ∷ l) chain free =
    let parts = neither (nat_eq n a) (list_any (nat_eq n) l) free in
    let other = λ (here : r ≡ n). true≢false (sym (eq-eqb n a (sym here ∙ sym chain.0)) ∙ parts.0) in
    by (same r other) (parent_of rs r) refl (λ q up. chain_same rs fs n same q l up parts.1)
  where
    headed : IsChain fs r (r ∷ l) → IsChain fs r (a ∷ l)
    headed up = (chain.0, up.1)

    by : parent_of fs r ≡ parent_of rs r → (o : Option ℕ) → parent_of rs r ≡ o → ((q : ℕ) → IsChain rs q l → IsChain fs q l)
        → IsChain fs r (a ∷ l)
    by as_before None none more = headed (chain_last fs r l (chain_end rs r a l none chain) (as_before ∙ none))
    by as_before (Some q) has more = headed (chain_longer fs r q l (as_before ∙ has) (more q (chain_up rs r q a l has chain)))

-- and where that region has a chain, each has one
pub chain_moved : (rs fs : Regions) (n : ℕ) (k : List ℕ) → ((m : ℕ) → m ≢ n → parent_of fs m ≡ parent_of rs m) → IsChain fs n k
    → (r : ℕ) (l : List ℕ) → IsChain rs r l → (h : List ℕ) × IsChain fs r h
chain_moved rs fs n k same own r [] chain = absurd chain
chain_moved rs fs n k same own r (a ∷ l) chain = by (same_or_other r n) (parent_of rs r) refl (λ q. chain_moved rs fs n k same own q l)
  where
    by : (r ≡ n) ⊎ (r ≢ n) → (o : Option ℕ) → parent_of rs r ≡ o → ((q : ℕ) → IsChain rs q l → (h : List ℕ) × IsChain fs q h)
        → (h : List ℕ) × IsChain fs r h
    by (inl here) o is more = (k, subst (λ m. IsChain fs m k) (sym here) own)
    by (inr other) None none more = (r ∷ [], chain_alone fs r (same r other ∙ none))
    by (inr other) (Some q) has more =
        let up = more q (chain_up rs r q a l has chain) in
        (r ∷ up.0, chain_longer fs r q up.0 (same r other ∙ has) up.1)
