-- The names on each roster: what one more or one less changes.
use Rattle.std.proofs.Common.{◌≡◌, ◌≢◌, ℕ, Bool, true, false, nat_eq, if◌then◌else◌, List, [], ◌∷◌, ◌++◌, Option, None, Some, IsSome, IsSomeAnd, option_map, refl, ap, sym, ◌∙◌, subst}
use Rattle.std.specs.Map.{lookup, set_value}
use Rattle.std.proofs.lemmas.Bool.{false≢true}
use Rattle.std.proofs.lemmas.Map.Steps.{set_value_same}
use Rattle.vx_name.proofs.NameLemmas.{absent_stays}
use Rattle.vx_region.specs.Association.{is_such, has_name}
use Rattle.vx_region.specs.Forest.{IsNumbered}
use Rattle.vx_region.specs.Laws.{GainsName, LosesName}
use Rattle.vx_name.specs.Names.{names}
use Rattle.vx_region.specs.Regions.{RegionData, Regions, names_of, with_names, region_at, changed_at, gaining, losing, with_name, without_name}
use Rattle.vx_region.specs.declared.roster.Roster.{Roster}
use Rattle.vx_region.specs.declared.roster.Roster.TheVariants.{Owners, Members, Domains}
use Rattle.vx_region.proofs.Changes.{region_changed}
use Rattle.vx_region.proofs.Lookups.{lookup_is, known_found, changed_by_write}
use Rattle.vx_region.proofs.NameLemmas.{names_one_more, names_one_less}
use Rattle.vx_region.proofs.Numbers.{distinct_numbers}

-- other names on a roster leave those on each other
other_names : (roster other : Roster) (names : List (List ℕ)) (r : RegionData) → other ≢ roster → names_of other (with_names roster names r) ≡ names_of other r
other_names Owners Owners names r apart = absurd (apart refl)
other_names Owners Members names r apart = refl
other_names Owners Domains names r apart = refl
other_names Members Owners names r apart = refl
other_names Members Members names r apart = absurd (apart refl)
other_names Members Domains names r apart = refl
other_names Domains Owners names r apart = refl
other_names Domains Members names r apart = refl
other_names Domains Domains names r apart = absurd (apart refl)

gained : (roster : Roster) (name : List ℕ) (r : RegionData) → GainsName roster name r (gaining roster name r)
gained Owners name r = record {
  id = refl;
  shape = refl;
  priority = refl;
  parent = refl;
  named = names_one_more r.owners name;
  others = λ other apart. other_names Owners other _ r apart;
  settings = refl;
}
gained Members name r = record {
  id = refl;
  shape = refl;
  priority = refl;
  parent = refl;
  named = names_one_more r.members name;
  others = λ other apart. other_names Members other _ r apart;
  settings = refl;
}
gained Domains name r = record {
  id = refl;
  shape = refl;
  priority = refl;
  parent = refl;
  named = names_one_more r.domains name;
  others = λ other apart. other_names Domains other _ r apart;
  settings = refl;
}

lost : (roster : Roster) (name : List ℕ) (r : RegionData) → LosesName roster name r (losing roster name r)
lost Owners name r = record {
  id = refl;
  shape = refl;
  priority = refl;
  parent = refl;
  named = names_one_less r.owners name;
  others = λ other apart. other_names Owners other _ r apart;
  settings = refl;
}
lost Members name r = record {
  id = refl;
  shape = refl;
  priority = refl;
  parent = refl;
  named = names_one_less r.members name;
  others = λ other apart. other_names Members other _ r apart;
  settings = refl;
}
lost Domains name r = record {
  id = refl;
  shape = refl;
  priority = refl;
  parent = refl;
  named = names_one_less r.domains name;
  others = λ other apart. other_names Domains other _ r apart;
  settings = refl;
}

-- a region that is there gains the name
pub name_added : (rs : Regions) (n : ℕ) (roster : Roster) (name : List ℕ) (old : RegionData) → region_at rs n ≡ Some old
    → IsSomeAnd (region_at (with_name rs n roster name) n) (GainsName roster name old)
unfolding with_name
name_added rs n roster name old there =
    subst (λ r. IsSomeAnd r (GainsName roster name old)) (sym (region_changed (gaining roster name) n rs ∙ ap (option_map (gaining roster name)) there))
    (gained roster name old)

-- or loses it
pub name_dropped : (rs : Regions) (n : ℕ) (roster : Roster) (name : List ℕ) (old : RegionData) → region_at rs n ≡ Some old
    → IsSomeAnd (region_at (without_name rs n roster name) n) (LosesName roster name old)
unfolding without_name
name_dropped rs n roster name old there =
    subst (λ r. IsSomeAnd r (LosesName roster name old)) (sym (region_changed (losing roster name) n rs ∙ ap (option_map (losing roster name)) there))
    (lost roster name old)

-- a region that has the name gains nothing
gains_nothing : (roster : Roster) (name : List ℕ) (r : RegionData) → names (names_of roster r) name ≡ true → gaining roster name r ≡ r
gains_nothing Owners name r there = ap (λ b. record r { owners = if b then r.owners else r.owners ++ name ∷ [] }) there
gains_nothing Members name r there = ap (λ b. record r { members = if b then r.members else r.members ++ name ∷ [] }) there
gains_nothing Domains name r there = ap (λ b. record r { domains = if b then r.domains else r.domains ++ name ∷ [] }) there

-- and the set stays as it was
pub named_already : (rs : Regions) (n : ℕ) (roster : Roster) (name : List ℕ) → IsNumbered rs → has_name rs roster name n ≡ true → with_name rs n roster name ≡ rs
unfolding region_at has_name with_name
named_already rs n roster name numbered has = by (lookup (nat_eq n) rs.entries) refl (ap (is_such named) (lookup_is n rs.entries) ∙ has)
  where
    named : RegionData → Bool
    named r = names (names_of roster r) name

    by : (o : Option RegionData) → lookup (nat_eq n) rs.entries ≡ o → is_such named o ≡ true
        → record rs { entries = changed_at (gaining roster name) n rs.entries } ≡ rs
    by None none has = absurd (false≢true has)
    by (Some r) there has =
        ap (λ es. record rs { entries = es })
        (sym (changed_by_write (gaining roster name) n rs.entries r (distinct_numbers 0 rs.entries numbered.ascending) there)
        ∙ ap (set_value (nat_eq n) rs.entries) (gains_nothing roster name r has) ∙ set_value_same (nat_eq n) rs.entries r there)

-- a region that does not have the name loses nothing
loses_nothing : (roster : Roster) (name : List ℕ) (r : RegionData) → names (names_of roster r) name ≡ false → losing roster name r ≡ r
loses_nothing Owners name r absent = ap (λ kept. record r { owners = kept }) (absent_stays r.owners name absent)
loses_nothing Members name r absent = ap (λ kept. record r { members = kept }) (absent_stays r.members name absent)
loses_nothing Domains name r absent = ap (λ kept. record r { domains = kept }) (absent_stays r.domains name absent)

-- and the set stays as it was
pub absent_already : (rs : Regions) (n : ℕ) (roster : Roster) (name : List ℕ) → IsNumbered rs → IsSome (region_at rs n) → has_name rs roster name n ≡ false
    → without_name rs n roster name ≡ rs
unfolding region_at has_name without_name
absent_already rs n roster name numbered known hasnt =
    by (lookup (nat_eq n) rs.entries) refl (known_found n rs known) (ap (is_such named) (lookup_is n rs.entries) ∙ hasnt)
  where
    named : RegionData → Bool
    named r = names (names_of roster r) name

    by : (o : Option RegionData) → lookup (nat_eq n) rs.entries ≡ o → IsSome o → is_such named o ≡ false
        → record rs { entries = changed_at (losing roster name) n rs.entries } ≡ rs
    by None none some hasnt = cc
    by (Some r) there some hasnt =
        ap (λ es. record rs { entries = es })
        (sym (changed_by_write (losing roster name) n rs.entries r (distinct_numbers 0 rs.entries numbered.ascending) there)
        ∙ ap (set_value (nat_eq n) rs.entries) (loses_nothing roster name r hasnt) ∙ set_value_same (nat_eq n) rs.entries r there)
