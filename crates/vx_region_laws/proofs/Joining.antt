-- What domains are to machines, and what they are not to players.
use Rattle.std.proofs.Common.{◌≡◌, inl, inr, ℕ, zero, suc, Bool, true, false, nat_eq, ◌||◌, if◌then◌else◌, List, [], ◌∷◌, Option, Some, None, option_map, Contains, refl, ap, sym, ◌∙◌, subst}
use Rattle.std.specs.Prelude.{◌↔◌}
use Rattle.std.specs.List.{list_any}
use Rattle.std.specs.Option.{option_and_then}
use Rattle.std.proofs.Math.Bool.{or-true}
use Rattle.std.proofs.lemmas.Bool.{eq-eqb, false≢true}
use Rattle.vx_decide.proofs.Picks.{any_at, any_from}
use Rattle.vx_flag.specs.declared.association.Association.TheVariants.{Owner, Member, Stranger}
use Rattle.vx_geom.specs.declared.pos.Pos.{Pos}
use Rattle.vx_geom.specs.Outline.{is_in}
use Rattle.vx_region.specs.Ancestry.{chain, ancestors, from_parent, is_above}
use Rattle.vx_region.specs.Association.{is_such, has_name, has_name_along, holds_place, player_association, association}
use Rattle.vx_region.specs.Forest.{IsNumbered, IsForest}
use Rattle.vx_name.specs.Names.{names}
use Rattle.vx_region.specs.Regions.{RegionData, Regions, region_at, parent_of, names_of, with_names, gaining, losing, changed, with_name, without_name}
use Rattle.vx_region.specs.Subjects.{Named, Machine}
use Rattle.vx_region.specs.declared.roster.Roster.{Roster}
use Rattle.vx_region.specs.declared.roster.Roster.TheVariants.{Owners, Members, Domains}
use Rattle.vx_region.proofs.Chains.{ancestors_by_parent, above_irreflexive, neither}
use Rattle.vx_region.proofs.Changes.{region_changed, region_elsewhere}
use Rattle.vx_region.proofs.Lookups.{same_or_other}
use Rattle.vx_region.proofs.NameLemmas.{names_one_less}
use Rattle.vx_region.proofs.Numbers.{numbered_changed}
use Rattle.vx_region_laws.specs.Standing.{IsStoodIn, HasDomain, IsInDomain}
use Rattle.vx_region_laws.specs.Domain.{ListsAlone, SharesNoOther}
use Rattle.vx_region_laws.proofs.Standings.{named_from, named_at, stood_from, stood_at, machines_stand}

-- a change of one region that keeps its parent
module _ (change : RegionData → RegionData) (keeps : (r : RegionData) → (change r).parent ≡ r.parent) (n : ℕ) (rs : Regions) where
  parents_kept : (m : ℕ) → parent_of (changed change n rs) m ≡ parent_of rs m
  unfolding parent_of
  parents_kept m =
      elim (same_or_other m n) [
        | inl same ↦
            ap (λ k. option_and_then (λ (r : RegionData). r.parent) (region_at (changed change n rs) k)) same
            ∙ ap (option_and_then (λ (r : RegionData). r.parent)) (region_changed change n rs)
            ∙ by (region_at rs n)
            ∙ ap (λ k. option_and_then (λ (r : RegionData). r.parent) (region_at rs k)) (sym same)
        | inr other ↦ ap (option_and_then (λ (r : RegionData). r.parent)) (region_elsewhere change n m rs other)
      ]
    where
      by : (o : Option RegionData) → option_and_then (λ (r : RegionData). r.parent) (option_map change o) ≡ option_and_then (λ r. r.parent) o
      by None = refl
      by (Some r) = keeps r

  chains_kept : (k m : ℕ) → chain k (changed change n rs) m ≡ chain k rs m
  chains_kept zero m = refl
  chains_kept (suc k) m =
      ap (λ o. m ∷ from_parent (chain k (changed change n rs)) o) (parents_kept m) ∙ ap (λ l. m ∷ l) (by (parent_of rs m) (chains_kept k))
    where
      by : (o : Option ℕ) → ((q : ℕ) → chain k (changed change n rs) q ≡ chain k rs q) → from_parent (chain k (changed change n rs)) o ≡ from_parent (chain k rs) o
      by None rest = refl
      by (Some q) rest = rest q

  -- leaves each ancestry
  ancestry_kept : (m : ℕ) → ancestors (changed change n rs) m ≡ ancestors rs m
  unfolding ancestors
  ancestry_kept m = chains_kept (suc rs.last) m

  -- and a test of regions that it leaves too
  such_kept : (test : RegionData → Bool) → ((r : RegionData) → test (change r) ≡ test r) → (m : ℕ)
      → is_such test (region_at (changed change n rs) m) ≡ is_such test (region_at rs m)
  such_kept test leaves m =
      elim (same_or_other m n) [
        | inl same ↦
            ap (λ k. is_such test (region_at (changed change n rs) k)) same ∙ ap (is_such test) (region_changed change n rs)
            ∙ by (region_at rs n) ∙ ap (λ k. is_such test (region_at rs k)) (sym same)
        | inr other ↦ ap (is_such test) (region_elsewhere change n m rs other)
      ]
    where
      by : (o : Option RegionData) → is_such test (option_map change o) ≡ is_such test o
      by None = refl
      by (Some r) = leaves r

same_any : {X : Type 0} (f g : X → Bool) → ((x : X) → f x ≡ g x) → (xs ys : List X) → xs ≡ ys → list_any f xs ≡ list_any g ys
same_any f g alike xs ys same = ap (list_any f) same ∙ by ys
  where
    by : (zs : List _) → list_any f zs ≡ list_any g zs
    by [] = refl
    by (z ∷ zs) = ap (λ b. b || list_any f zs) (alike z) ∙ ap (λ b. g z || b) (by zs)

-- the names on another roster stay along each ancestry
player_kept : (roster : Roster) (m n : ℕ) (domains : List (List ℕ)) (name : List ℕ) (rs : Regions)
    → ((r : RegionData) → names_of roster (with_names Domains domains r) ≡ names_of roster r)
    → has_name_along (changed (with_names Domains domains) m rs) roster name n ≡ has_name_along rs roster name n
unfolding has_name_along has_name
player_kept roster m n domains name rs leaves =
    same_any (has_name (changed (with_names Domains domains) m rs) roster name) (has_name rs roster name)
    (such_kept (with_names Domains domains) (λ r. refl) m rs (λ r. names (names_of roster r) name) (λ r. ap (λ ns. names ns name) (leaves r)))
    (ancestors (changed (with_names Domains domains) m rs) n) (ancestors rs n) (ancestry_kept (with_names Domains domains) (λ r. refl) m rs n)

pub domains_are_no_players : (rs : Regions) (m n : ℕ) (domains : List (List ℕ)) (player : List ℕ)
    → association (changed (with_names Domains domains) m rs) (Named player) n ≡ association rs (Named player) n
unfolding association player_association
domains_are_no_players rs m n domains player =
    ap (λ b. if b then Owner else if has_name_along (changed (with_names Domains domains) m rs) Members player n then Member else Stranger)
    (player_kept Owners m n domains player rs (λ r. refl))
    ∙ ap (λ b. if has_name_along rs Owners player n then Owner else if b then Member else Stranger) (player_kept Members m n domains player rs (λ r. refl))

pub no_domain_as_before : (rs : Regions) (p : Pos) (n : ℕ) → IsNumbered rs → ((name : List ℕ) → HasDomain rs name n → ⊥)
    → (association rs (Machine p) n ≡ Owner) ↔ IsStoodIn rs p n
no_domain_as_before rs p n numbered none =
    let stands = (machines_stand rs p n numbered).owner in
    ((λ told. elim (stands.0 told) [ inl here ↦ here | inr there ↦ absurd (none there.name there.there) ]), (λ here. stands.1 (inl here)))

pub one_domain_joins : (rs : Regions) (p : Pos) (a b : ℕ) (name : List ℕ) → IsNumbered rs → IsStoodIn rs p a → HasDomain rs name a → HasDomain rs name b
    → association rs (Machine p) b ≡ Owner
one_domain_joins rs p a b name numbered stood here there =
    (machines_stand rs p b numbered).owner.1 (inr (record { by = a; stood = stood; name = name; here = here; there = there }))

-- a region that drops a domain
module _ (rs : Regions) (n : ℕ) (name : List ℕ) where
  stood_before : (p : Pos) (m : ℕ) → IsStoodIn (changed (losing Domains name) n rs) p m → IsStoodIn rs p m
  unfolding holds_place
  stood_before p m is =
      stood_from rs p m
      (sym (such_kept (losing Domains name) (λ r. refl) n rs (λ r. is_in r.shape p) (λ r. refl) m) ∙ stood_at (changed (losing Domains name) n rs) p m is)

  -- lists no domain that it did not list, and no longer that one
  listed_before : (other : List ℕ) (m : ℕ) → has_name (changed (losing Domains name) n rs) Domains other m ≡ true
      → (has_name rs Domains other m ≡ true) × (m ≡ n → other ≡ name → ⊥)
  unfolding has_name
  listed_before other m lists =
      elim (same_or_other m n) [
        | inl same ↦
            let found = by (region_at rs n) (sym (ap (is_such named) (region_changed (losing Domains name) n rs)) ∙ ap (λ k. is_such named (region_at (changed (losing Domains name) n rs) k)) (sym same) ∙ lists) in
            (ap (λ k. is_such named (region_at rs k)) same ∙ found.0, λ here. found.1)
        | inr apart ↦ (sym (ap (is_such named) (region_elsewhere (losing Domains name) n m rs apart)) ∙ lists, λ same. absurd (apart same))
      ]
    where
      named : RegionData → Bool
      named r = names (names_of Domains r) other

      by : (o : Option RegionData) → is_such named (option_map (losing Domains name) o) ≡ true → (is_such named o ≡ true) × (other ≡ name → ⊥)
      by None has = absurd (false≢true has)
      by (Some r) has = (names_one_less r.domains name other).0 has

  -- so each domain of a region it had before, by one that lists it still
  domain_before : (other : List ℕ) (m : ℕ) → HasDomain (changed (losing Domains name) n rs) other m
      → (k : ℕ) × Contains (ancestors rs m) k × (has_name rs Domains other k ≡ true) × (k ≡ n → other ≡ name → ⊥)
  unfolding has_name_along
  domain_before other m has =
      let found = any_from (has_name (changed (losing Domains name) n rs) Domains other) (ancestors (changed (losing Domains name) n rs) m)
      (named_at (changed (losing Domains name) n rs) Domains other m has) in
      let listed = listed_before other found.0 found.2 in
      (found.0, subst (λ l. Contains l found.0) (ancestry_kept (losing Domains name) (λ r. refl) n rs m) found.1, listed.0, listed.1)

  had : (other : List ℕ) (m : ℕ) → HasDomain (changed (losing Domains name) n rs) other m → HasDomain rs other m
  unfolding has_name_along
  had other m has =
      let found = domain_before other m has in
      named_from rs Domains other m (any_at (has_name rs Domains other) (ancestors rs m) found.0 found.1 found.2)

pub last_domain_parts : (rs : Regions) (p : Pos) (n : ℕ) (name : List ℕ) → IsNumbered rs → (IsStoodIn rs p n → ⊥) → ListsAlone rs name n
    → SharesNoOther rs p name n → association (without_name rs n Domains name) (Machine p) n ≡ Stranger
unfolding without_name
last_domain_parts rs p n name numbered apart alone no_other =
    (machines_stand (changed (losing Domains name) n rs) p n (numbered_changed (losing Domains name) n rs numbered)).stranger.1
    ((λ stood. apart (stood_before rs n name p n stood)), still_shared)
  where
    still_shared : IsInDomain (changed (losing Domains name) n rs) p n → ⊥
    still_shared is =
        let same = no_other is.by is.name (stood_before rs n name p is.by is.stood) (had rs n name is.name is.by is.here) (had rs n name is.name n is.there) in
        let found = domain_before rs n name is.name n is.there in
        found.3 (alone found.0 found.1 (subst (λ d. has_name rs Domains d found.0 ≡ true) same found.2)) same

pub parents_are_the_childs : (rs : Regions) (n q : ℕ) (name : List ℕ) → IsForest rs → parent_of rs n ≡ Some q → HasDomain rs name q → HasDomain rs name n
unfolding has_name_along
parents_are_the_childs rs n q name forest above has =
    named_from rs Domains name n
    (ap (list_any (has_name rs Domains name)) (ancestors_by_parent rs forest n ∙ ap (λ o. n ∷ from_parent (ancestors rs) o) above)
    ∙ ap (λ b. has_name rs Domains name n || b) (named_at rs Domains name q has) ∙ or-true (has_name rs Domains name n))

-- a change of a region that is not among these is none to them
kept_beside : (change : RegionData → RegionData) (rs : Regions) (n : ℕ) (other : List ℕ) (l : List ℕ) → list_any (nat_eq n) l ≡ false
    → list_any (has_name (changed change n rs) Domains other) l ≡ list_any (has_name rs Domains other) l
unfolding has_name
kept_beside change rs n other [] beside = refl
kept_beside change rs n other (m ∷ l) beside =
    let apart = neither (nat_eq n m) (list_any (nat_eq n) l) beside in
    ap (λ o. is_such (λ r. names (names_of Domains r) other) o || list_any (has_name (changed change n rs) Domains other) l)
    (region_elsewhere change n m rs (λ same. false≢true (sym apart.0 ∙ eq-eqb n m (sym same))))
    ∙ ap (λ b. has_name rs Domains other m || b) (kept_beside change rs n other l apart.1)

pub childs_are_not_the_parents : (rs : Regions) (n q : ℕ) (r : RegionData) (name other : List ℕ) → IsForest rs → region_at rs n ≡ Some r
    → r.parent ≡ Some q → HasDomain (with_name rs n Domains name) other q ↔ HasDomain rs other q
unfolding with_name has_name_along is_above
childs_are_not_the_parents rs n q r name other forest there above = (
  (λ has. named_from rs Domains other q (sym same ∙ named_at (changed (gaining Domains name) n rs) Domains other q has)),
  (λ has. named_from (changed (gaining Domains name) n rs) Domains other q (same ∙ named_at rs Domains other q has)),
)
  where
    beside : list_any (nat_eq n) (ancestors rs q) ≡ false
    beside = ap (λ o. list_any (nat_eq n) (from_parent (ancestors rs) o)) (sym above) ∙ above_irreflexive rs forest n r there

    same : has_name_along (changed (gaining Domains name) n rs) Domains other q ≡ has_name_along rs Domains other q
    same =
        ap (list_any (has_name (changed (gaining Domains name) n rs) Domains other)) (ancestry_kept (gaining Domains name) (λ r. refl) n rs q)
        ∙ kept_beside (gaining Domains name) rs n other (ancestors rs q) beside
