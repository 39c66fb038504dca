-- What an actor is to a region, by the names and the places that decide it.
use Rattle.std.proofs.Common.{◌≡◌, ◌⊎◌, inl, inr, ℕ, Bool, true, false, cond, nat_eq, ◌&&◌, ◌||◌, bytes_eq, if◌then◌else◌, List, [], ◌∷◌, find, Option, Some, None, option_map, Contains, refl, ap, sym, ◌∙◌, subst}
use Rattle.std.specs.List.{list_any}
use Rattle.std.specs.Prelude.{◌↔◌}
use Rattle.std.proofs.Math.Bool.{or-true}
use Rattle.std.proofs.lemmas.Bool.{eqb-true}
use Rattle.std.proofs.lemmas.Option.{slice_get-get_or}
use Rattle.std.proofs.lemmas.Slice.Eq.{bytes_eq-Decides}
use Rattle.vx_decide.proofs.Picks.{any_at, any_from}
use Rattle.vx_flag.specs.declared.association.Association.{Association}
use Rattle.vx_flag.specs.declared.association.Association.TheVariants.{Owner, Member, Stranger}
use Rattle.vx_geom.specs.declared.pos.Pos.{Pos}
use Rattle.vx_geom.specs.Outline.{is_in}
use Rattle.vx_region.specs.Ancestry.{ancestors}
use Rattle.vx_region.specs.Association.{is_such, has_name, has_name_along, holds_place, domains_of, domains_at, domains_along, has_domain_along, share_domain, stands_in_domain, player_association, machine_association, association}
use Rattle.vx_region.specs.Forest.{IsNumbered}
use Rattle.vx_name.specs.Names.{names}
use Rattle.vx_region.specs.Regions.{RegionData, Entry, Regions, region_at, names_of}
use Rattle.vx_region.proofs.Lookups.{region_at_place}
use Rattle.vx_region.proofs.SharedDomains.{any_flat}
use Rattle.vx_region.specs.declared.roster.Roster.{Roster}
use Rattle.vx_region.specs.declared.roster.Roster.TheVariants as roster
use Rattle.vx_region_laws.specs.Standing.{IsNamed, IsStoodIn, HasDomain, IsInDomain, IsPlayersStanding, IsMachinesStanding}

-- a region that is there and passes a test
pub such_from : (test : RegionData → Bool) (o : Option RegionData) → is_such test o ≡ true → (r : RegionData) × (o ≡ Some r) × (test r ≡ true)
such_from test None passes = cc
such_from test (Some r) passes = (r, refl, passes)

such_at : (test : RegionData → Bool) (o : Option RegionData) (r : RegionData) → o ≡ Some r → test r ≡ true → is_such test o ≡ true
such_at test o r there passes = ap (is_such test) there ∙ passes

-- a name along the ancestry is found where it stands
pub named_from : (rs : Regions) (r : Roster) (name : List ℕ) (n : ℕ) → has_name_along rs r name n ≡ true → IsNamed rs r name n
unfolding has_name_along has_name
named_from rs r name n found =
    let line = any_from (has_name rs r name) (ancestors rs n) found in
    let region = such_from (λ d. names (names_of r d) name) (region_at rs line.0) line.2 in
    let word = any_from (bytes_eq name) (names_of r region.0) region.2 in
    record {
      by = line.0;
      line = line.1;
      region = region.0;
      there = region.1;
      named = subst (λ w. Contains (names_of r region.0) w) (sym ((bytes_eq-Decides name word.0).0 word.2)) word.1;
    }

pub named_at : (rs : Regions) (r : Roster) (name : List ℕ) (n : ℕ) → IsNamed rs r name n → has_name_along rs r name n ≡ true
unfolding has_name_along has_name
named_at rs r name n is =
    any_at (has_name rs r name) (ancestors rs n) is.by is.line
    (such_at (λ d. names (names_of r d) name) (region_at rs is.by) is.region is.there
    (any_at (bytes_eq name) (names_of r is.region) name is.named ((bytes_eq-Decides name name).1 refl)))

-- so is a place that a region contains
pub stood_from : (rs : Regions) (p : Pos) (n : ℕ) → holds_place rs p n ≡ true → IsStoodIn rs p n
unfolding holds_place
stood_from rs p n found =
    let region = such_from (λ d. is_in d.shape p) (region_at rs n) found in
    record { region = region.0; there = region.1; inside = region.2 }

pub stood_at : (rs : Regions) (p : Pos) (n : ℕ) → IsStoodIn rs p n → holds_place rs p n ≡ true
unfolding holds_place
stood_at rs p n is = such_at (λ d. is_in d.shape p) (region_at rs n) is.region is.there is.inside

-- two tests that are alike find the same
any_alike : {X : Type 0} (f g : X → Bool) → ((x : X) → f x ≡ g x) → (xs : List X) → list_any f xs ≡ list_any g xs
any_alike f g alike [] = refl
any_alike f g alike (x ∷ xs) = ap (λ b. b || list_any f xs) (alike x) ∙ ap (λ b. g x || b) (any_alike f g alike xs)

-- an entry is the region of its number
entry_is : (rs : Regions) (e : Entry) → IsNumbered rs → Contains rs.entries e → region_at rs e.0 ≡ Some e.1
entry_is rs e numbered there = region_at_place rs there.0 e.0 e.1 numbered (slice_get-get_or rs.entries there.0 e there.1 ∙ ap Some there.2)

and_both : (a b : Bool) → (a && b) ≡ true → (a ≡ true) × (b ≡ true)
and_both true true both = (refl, refl)
and_both true false both = cc
and_both false b both = cc

both_ways : (b : Bool) → b ≡ true → b ≡ false → ⊥
both_ways true yes_it no_it = cc
both_ways false yes_it no_it = cc

-- what is answered by two tests, one after the other
module _ (a b : Bool) (A B : Type 0) (a_from : a ≡ true → A) (a_at : A → a ≡ true) (b_from : b ≡ true → B) (b_at : B → b ≡ true) where
  abbrev of_two : Bool → Bool → Association
  of_two x y = if x then Owner else if y then Member else Stranger

  owner : (x : Bool) → a ≡ x → (of_two x b ≡ Owner) ↔ A
  owner true is = ((λ told. a_from is), (λ named. refl))
  owner false is = ((λ told. absurd (not_owner b told)), (λ named. absurd (both_ways a (a_at named) is)))
    where
      not_owner : (y : Bool) → (if y then Member else Stranger) ≡ Owner → ⊥
      not_owner true told = cc
      not_owner false told = cc

  member : (x y : Bool) → a ≡ x → b ≡ y → (of_two x y ≡ Member) ↔ ((A → ⊥) × B)
  member true y is as_well = ((λ told. cc), (λ named. absurd (named.0 (a_from is))))
  member false true is as_well = ((λ told. ((λ owned. both_ways a (a_at owned) is), b_from as_well)), (λ named. refl))
  member false false is as_well = ((λ told. cc), (λ named. absurd (both_ways b (b_at named.1) as_well)))

  stranger : (x y : Bool) → a ≡ x → b ≡ y → (of_two x y ≡ Stranger) ↔ ((A → ⊥) × (B → ⊥))
  stranger true y is as_well = ((λ told. cc), (λ named. absurd (named.0 (a_from is))))
  stranger false true is as_well = ((λ told. cc), (λ named. absurd (named.1 (b_from as_well))))
  stranger false false is as_well =
      ((λ told. ((λ owned. both_ways a (a_at owned) is), (λ named. both_ways b (b_at named) as_well))), (λ named. refl))

pub players_stand : (rs : Regions) (name : List ℕ) (n : ℕ) → IsPlayersStanding rs name n
unfolding association player_association
players_stand rs name n = record {
  owner = owner (has_name_along rs roster.Owners name n) (has_name_along rs roster.Members name n) (IsNamed rs roster.Owners name n) (IsNamed rs roster.Members name n)
      (named_from rs roster.Owners name n) (named_at rs roster.Owners name n) (named_from rs roster.Members name n) (named_at rs roster.Members name n) _ refl;
  member = member (has_name_along rs roster.Owners name n) (has_name_along rs roster.Members name n) (IsNamed rs roster.Owners name n) (IsNamed rs roster.Members name n)
      (named_from rs roster.Owners name n) (named_at rs roster.Owners name n) (named_from rs roster.Members name n) (named_at rs roster.Members name n) _ _ refl refl;
  stranger = stranger (has_name_along rs roster.Owners name n) (has_name_along rs roster.Members name n) (IsNamed rs roster.Owners name n) (IsNamed rs roster.Members name n)
      (named_from rs roster.Owners name n) (named_at rs roster.Owners name n) (named_from rs roster.Members name n) (named_at rs roster.Members name n) _ _ refl refl;
}

-- a domain along the ancestry is one of all that it lists
listed_at : (rs : Regions) (name : List ℕ) (n : ℕ) → has_name rs roster.Domains name n ≡ names (domains_at rs n) name
unfolding has_name domains_at
listed_at rs name n = by (region_at rs n)
  where
    by : (o : Option RegionData) → is_such (λ r. names (names_of roster.Domains r) name) o ≡ names (domains_of o) name
    by None = refl
    by (Some r) = refl

listed_along : (rs : Regions) (name : List ℕ) (n : ℕ) → has_domain_along rs name n ≡ names (domains_along rs n) name
unfolding has_name_along domains_along
listed_along rs name n =
    any_alike (has_name rs roster.Domains name) (λ m. names (domains_at rs m) name) (listed_at rs name) (ancestors rs n)
    ∙ sym (any_flat (bytes_eq name) (domains_at rs) (ancestors rs n))

-- the region of a number passes a test of its entry where some entry is to
entry_passes : (test : Entry → Bool) (n : ℕ) (r : RegionData) (es : List Entry) → option_map (λ e. e.1) (find (λ e. nat_eq n e.0) es) ≡ Some r
    → test (n, r) ≡ true → list_any test es ≡ true
entry_passes test n r [] found passes = cc
entry_passes test n r (e ∷ es) found passes = by (nat_eq n e.0) refl found (λ later. entry_passes test n r es later passes)
  where
    by : (b : Bool) → nat_eq n e.0 ≡ b → option_map (λ (d : Entry). d.1) (cond b (Some e) (find (λ d. nat_eq n d.0) es)) ≡ Some r
        → (option_map (λ (d : Entry). d.1) (find (λ d. nat_eq n d.0) es) ≡ Some r → list_any test es ≡ true) → (test e || list_any test es) ≡ true
    by true is found later =
        let same : e.1 ≡ r = cc in
        ap (λ b. b || list_any test es) (ap test (λ i. (sym (eqb-true n e.0 is) i, same i)) ∙ passes)
    by false is found later = ap (λ b. test e || b) (later found) ∙ or-true (test e)

-- a domain that is shared is found where it is listed
shared_from : (rs : Regions) (a b : ℕ) → share_domain rs a b ≡ true → (name : List ℕ) × HasDomain rs name a × HasDomain rs name b
unfolding share_domain
shared_from rs a b shared =
    let found = any_from (λ name. has_domain_along rs name b) (domains_along rs a) shared in (
      found.0,
      named_from rs roster.Domains found.0 a
          (listed_along rs found.0 a ∙ any_at (bytes_eq found.0) (domains_along rs a) found.0 found.1 ((bytes_eq-Decides found.0 found.0).1 refl)),
      named_from rs roster.Domains found.0 b found.2,
    )

shared_at : (rs : Regions) (name : List ℕ) (a b : ℕ) → HasDomain rs name a → HasDomain rs name b → share_domain rs a b ≡ true
unfolding share_domain
shared_at rs name a b here there =
    let found = any_from (bytes_eq name) (domains_along rs a) (sym (listed_along rs name a) ∙ named_at rs roster.Domains name a here) in
    any_at (λ d. has_domain_along rs d b) (domains_along rs a) found.0 found.1
    (ap (λ d. has_domain_along rs d b) (sym ((bytes_eq-Decides name found.0).0 found.2)) ∙ named_at rs roster.Domains name b there)

-- so is a region in which the machine stands
in_domain_from : (rs : Regions) (p : Pos) (n : ℕ) → IsNumbered rs → stands_in_domain rs p n ≡ true → IsInDomain rs p n
unfolding stands_in_domain
in_domain_from rs p n numbered stands =
    let found = any_from (λ e. is_in e.1.shape p && share_domain rs e.0 n) rs.entries stands in
    let inside = and_both (is_in found.0.1.shape p) (share_domain rs found.0.0 n) found.2 in
    let name = shared_from rs found.0.0 n inside.1 in
    record {
      by = found.0.0;
      stood = record { region = found.0.1; there = entry_is rs found.0 numbered found.1; inside = inside.0 };
      name = name.0;
      here = name.1;
      there = name.2;
    }

in_domain_at : (rs : Regions) (p : Pos) (n : ℕ) → IsInDomain rs p n → stands_in_domain rs p n ≡ true
unfolding stands_in_domain region_at
in_domain_at rs p n is =
    entry_passes (λ e. is_in e.1.shape p && share_domain rs e.0 n) is.by is.stood.region rs.entries is.stood.there
    (ap (λ b. b && share_domain rs is.by n) is.stood.inside ∙ shared_at rs is.name is.by n is.here is.there)

-- what is answered by one of two tests
module _ (a b : Bool) (A B : Type 0) (a_from : a ≡ true → A) (a_at : A → a ≡ true) (b_from : b ≡ true → B) (b_at : B → b ≡ true) where
  abbrev of_either : Bool → Bool → Association
  of_either x y = if x || y then Owner else Stranger

  holder : (x y : Bool) → a ≡ x → b ≡ y → (of_either x y ≡ Owner) ↔ (A ⊎ B)
  holder true y is as_well = ((λ told. inl (a_from is)), (λ stood. refl))
  holder false true is as_well = ((λ told. inr (b_from as_well)), (λ stood. refl))
  holder false false is as_well =
      ((λ told. cc), (λ stood. elim stood [ inl here ↦ absurd (both_ways a (a_at here) is) | inr there ↦ absurd (both_ways b (b_at there) as_well) ]))

  outsider : (x y : Bool) → a ≡ x → b ≡ y → (of_either x y ≡ Stranger) ↔ ((A → ⊥) × (B → ⊥))
  outsider true y is as_well = ((λ told. cc), (λ stood. absurd (stood.0 (a_from is))))
  outsider false true is as_well = ((λ told. cc), (λ stood. absurd (stood.1 (b_from as_well))))
  outsider false false is as_well =
      ((λ told. ((λ here. both_ways a (a_at here) is), (λ there. both_ways b (b_at there) as_well))), (λ stood. refl))

pub machines_stand : (rs : Regions) (p : Pos) (n : ℕ) → IsNumbered rs → IsMachinesStanding rs p n
unfolding association machine_association
machines_stand rs p n numbered = record {
  owner = holder (holds_place rs p n) (stands_in_domain rs p n) (IsStoodIn rs p n) (IsInDomain rs p n)
      (stood_from rs p n) (stood_at rs p n) (in_domain_from rs p n numbered) (in_domain_at rs p n) _ _ refl refl;
  stranger = outsider (holds_place rs p n) (stands_in_domain rs p n) (IsStoodIn rs p n) (IsInDomain rs p n)
      (stood_from rs p n) (stood_at rs p n) (in_domain_from rs p n numbered) (in_domain_at rs p n) _ _ refl refl;
}
