-- The world at large has no region of its own, so everyone is a stranger to it.
use Rattle.std.proofs.Common.{◌≡◌, ℕ, ◌≤◌, false, cond, ◌||◌, if◌then◌else◌, nat_eq, List, [], ◌∷◌, find, None, Some, option_map, arith, refl, ap, ◌∙◌}
use Rattle.std.specs.List.{list_any}
use Rattle.std.proofs.lemmas.Bool.{ne_eqb}
use Rattle.vx_geom.specs.declared.pos.Pos.{Pos}
use Rattle.vx_geom.specs.Outline.{is_in}
use Rattle.vx_flag.specs.declared.association.Association.TheVariants.{Owner, Member, Stranger}
use Rattle.vx_region.specs.Ancestry.{from_parent, chain, ancestors}
use Rattle.vx_region.specs.Association.{is_such, has_name, has_name_along, holds_place, stands_in_domain, player_association, machine_association, association}
use Rattle.vx_region.specs.Forest.{IsAscending, IsNumbered}
use Rattle.vx_name.specs.Names.{names}
use Rattle.vx_region.specs.Regions.{Entry, Regions, region_at, names_of}
use Rattle.vx_region.specs.Subjects.{Actor, Named, Machine}
use Rattle.vx_region.specs.declared.roster.Roster.{Roster}
use Rattle.vx_region.specs.declared.roster.Roster.TheVariants as roster
use Rattle.vx_region.proofs.Lookups.{parent_nowhere}
use Rattle.vx_region.proofs.SharedDomains.{nothing_shared}

-- no region has a number up to the one above which all are
find_under : (k n : ℕ) (es : List Entry) → k ≤ n → IsAscending n es → find (λ e. nat_eq k e.0) es ≡ None
find_under k n [] low up = refl
find_under k n (e ∷ es) low up =
    ap (λ b. cond b (Some e) (find (λ (d : Entry). nat_eq k d.0) es)) (ne_eqb k e.0 (λ same. omega (arith, up.0)))
    ∙ find_under k e.0 es (omega (arith, up.0)) up.1

pub none_at_large : (rs : Regions) → IsNumbered rs → region_at rs 0 ≡ None
unfolding region_at
none_at_large rs numbered = ap (option_map (λ (e : Entry). e.1)) (find_under 0 0 rs.entries (omega arith) numbered.ascending)

module _ (rs : Regions) (numbered : IsNumbered rs) where
  unnamed : (roster : Roster) (name : List ℕ) → has_name rs roster name 0 ≡ false
  unfolding has_name
  unnamed roster name = ap (is_such (λ r. names (names_of roster r) name)) (none_at_large rs numbered)

  unnamed_along : (roster : Roster) (name : List ℕ) → has_name_along rs roster name 0 ≡ false
  unfolding has_name_along ancestors
  unnamed_along roster name =
      ap (λ o. has_name rs roster name 0 || list_any (has_name rs roster name) (from_parent (chain rs.last rs) o)) (parent_nowhere rs 0 (none_at_large rs numbered))
      ∙ ap (λ b. b || false) (unnamed roster name)

  player_is_a_stranger : (name : List ℕ) → player_association rs name 0 ≡ Stranger
  unfolding player_association
  player_is_a_stranger name =
      ap (λ b. if b then Owner else if has_name_along rs roster.Members name 0 then Member else Stranger) (unnamed_along roster.Owners name)
      ∙ ap (λ b. if b then Member else Stranger) (unnamed_along roster.Members name)

  machine_is_a_stranger : (place : Pos) → machine_association rs place 0 ≡ Stranger
  unfolding machine_association holds_place
  machine_is_a_stranger place =
      ap (λ b. if b || stands_in_domain rs place 0 then Owner else Stranger) (ap (is_such (λ r. is_in r.shape place)) (none_at_large rs numbered))
      ∙ ap (λ b. if b then Owner else Stranger) (nothing_shared rs 0 (unnamed_along roster.Domains) place)

-- everyone is a stranger to the world at large
pub stranger_at_large : (rs : Regions) (actor : Actor) → IsNumbered rs → association rs actor 0 ≡ Stranger
unfolding association
stranger_at_large rs (Named name) numbered = player_is_a_stranger rs numbered name
stranger_at_large rs (Machine place) numbered = machine_is_a_stranger rs numbered place
