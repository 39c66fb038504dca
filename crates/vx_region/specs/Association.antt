use Rattle.std.specs.Prelude.{ℕ, Bool, false, ◌&&◌, ◌||◌, if◌then◌else◌, List, [], Option, Some, None}
use Rattle.std.specs.List.{list_any, flat_map}
use Rattle.vx_flag.specs.declared.association.Association.{Association}
use Rattle.vx_flag.specs.declared.association.Association.TheVariants.{Owner, Member, Stranger}
use Rattle.vx_geom.specs.declared.pos.Pos.{Pos}
use Rattle.vx_geom.specs.Outline.{is_in}
use Rattle.vx_name.specs.Names.{names}
use Rattle.vx_region.specs.Regions.{RegionData, Regions, region_at, names_of}
use Rattle.vx_region.specs.Ancestry.{ancestors}
use Rattle.vx_region.specs.declared.roster.Roster.{Roster}
use Rattle.vx_region.specs.declared.roster.Roster.TheVariants as roster
use Rattle.vx_region.specs.Subjects.{Actor, Named, Machine}

-- the region is there and passes the test
abbrev pub is_such : (RegionData → Bool) → Option RegionData → Bool
is_such test None = false
is_such test (Some r) = test r

-- the domains of a region, and none without one
abbrev pub domains_of : Option RegionData → List (List ℕ)
domains_of None = []
domains_of (Some r) = r.domains

-- the region of the number has the name on that roster
unfoldable pub has_name : Regions → Roster → List ℕ → ℕ → Bool
has_name rs roster name n = is_such (λ r. names (names_of roster r) name) (region_at rs n)

-- some region of the ancestry has the name on that roster
unfoldable pub has_name_along : Regions → Roster → List ℕ → ℕ → Bool
has_name_along rs roster name n = list_any (has_name rs roster name) (ancestors rs n)

-- the region of the number itself contains the place
unfoldable pub holds_place : Regions → Pos → ℕ → Bool
holds_place rs p n = is_such (λ r. is_in r.shape p) (region_at rs n)

-- a player is an owner where some region of the ancestry names it so, else a member where one names
-- it so, else a stranger
unfoldable pub player_association : Regions → List ℕ → ℕ → Association
player_association rs name n =
    if has_name_along rs roster.Owners name n then Owner
    else if has_name_along rs roster.Members name n then Member else Stranger

-- some region of the ancestry lists the domain
abbrev pub has_domain_along : Regions → List ℕ → ℕ → Bool
has_domain_along rs name n = has_name_along rs roster.Domains name n

-- the domains that the region of the number lists itself
unfoldable pub domains_at : Regions → ℕ → List (List ℕ)
domains_at rs n = domains_of (region_at rs n)

-- all domains that its ancestry lists
unfoldable pub domains_along : Regions → ℕ → List (List ℕ)
domains_along rs n = flat_map (domains_at rs) (ancestors rs n)

-- some domain of a is one of b
unfoldable pub share_domain : Regions → ℕ → ℕ → Bool
share_domain rs a b = list_any (λ name. has_domain_along rs name b) (domains_along rs a)

-- some region that contains the place itself shares a domain with that of the number
unfoldable pub stands_in_domain : Regions → Pos → ℕ → Bool
stands_in_domain rs p n = list_any (λ e. is_in e.1.shape p && share_domain rs e.0 n) rs.entries

-- a machine is an owner of the regions in which it stands, and of those that share a domain with
-- one of them; it is a stranger to all others
unfoldable pub machine_association : Regions → Pos → ℕ → Association
machine_association rs place n =
    if holds_place rs place n || stands_in_domain rs place n then Owner else Stranger

-- what an actor is to the region of a number
unfoldable pub association : Regions → Actor → ℕ → Association
association rs (Named name) n = player_association rs name n
association rs (Machine place) n = machine_association rs place n
