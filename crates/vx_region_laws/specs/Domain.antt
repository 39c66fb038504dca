-- What domains are to machines, and what they are not to players.
use Rattle.std.specs.Prelude.{◌≡◌, ◌↔◌, ℕ, true, List, Some, Contains}
use Rattle.vx_flag.specs.declared.association.Association.TheVariants.{Owner, Stranger}
use Rattle.vx_geom.specs.declared.pos.Pos.{Pos}
use Rattle.vx_region.specs.Ancestry.{ancestors}
use Rattle.vx_region.specs.Association.{association, has_name}
use Rattle.vx_region.specs.Forest.{IsNumbered, IsForest}
use Rattle.vx_region.specs.Regions.{RegionData, Regions, region_at, parent_of, with_names, changed, with_name, without_name}
use Rattle.vx_region.specs.Subjects.{Named, Machine}
use Rattle.vx_region.specs.declared.roster.Roster.TheVariants.{Domains}
use Rattle.vx_region_laws.specs.Standing.{IsStoodIn, HasDomain}

-- where neither the region nor an ancestor lists a domain, its own machines are its owners, and no
-- others
abbrev pub NoDomainAsBefore : Type 0
NoDomainAsBefore = (rs : Regions) (p : Pos) (n : ℕ)
    → IsNumbered rs → ((name : List ℕ) → HasDomain rs name n → ⊥)
    → (association rs (Machine p) n ≡ Owner) ↔ IsStoodIn rs p n

-- whatever domains the region of some number lists, a player is to each region what he was
abbrev pub DomainsAreNoPlayers : Type 0
DomainsAreNoPlayers = (rs : Regions) (m n : ℕ) (domains : List (List ℕ)) (player : List ℕ)
    → association (changed (with_names Domains domains) m rs) (Named player) n
    ≡ association rs (Named player) n

-- a machine in one region is an owner of each other that has a domain in common with it
abbrev pub OneDomainJoins : Type 0
OneDomainJoins = (rs : Regions) (p : Pos) (a b : ℕ) (name : List ℕ)
    → IsNumbered rs → IsStoodIn rs p a → HasDomain rs name a → HasDomain rs name b
    → association rs (Machine p) b ≡ Owner

-- of the region and its ancestors none but the region itself lists the domain
abbrev pub ListsAlone : Regions → List ℕ → ℕ → Type 0
ListsAlone rs name n = (m : ℕ)
    → Contains (ancestors rs n) m → has_name rs Domains name m ≡ true → m ≡ n

-- no region in which the machine stands has another domain in common with it
abbrev pub SharesNoOther : Regions → Pos → List ℕ → ℕ → Type 0
SharesNoOther rs p name n = (c : ℕ) (other : List ℕ)
    → IsStoodIn rs p c → HasDomain rs other c → HasDomain rs other n → other ≡ name

-- a machine that does not stand in the region is a stranger to it once it drops the last domain in
-- common
abbrev pub LastDomainParts : Type 0
LastDomainParts = (rs : Regions) (p : Pos) (n : ℕ) (name : List ℕ)
    → IsNumbered rs → (IsStoodIn rs p n → ⊥) → ListsAlone rs name n → SharesNoOther rs p name n
    → association (without_name rs n Domains name) (Machine p) n ≡ Stranger

-- a domain of the parent is one of the child
abbrev pub ParentsAreTheChilds : Type 0
ParentsAreTheChilds = (rs : Regions) (n q : ℕ) (name : List ℕ)
    → IsForest rs → parent_of rs n ≡ Some q → HasDomain rs name q → HasDomain rs name n

-- whatever domain a child lists besides, its parent has those that it had
abbrev pub ChildsAreNotTheParents : Type 0
ChildsAreNotTheParents = (rs : Regions) (n q : ℕ) (r : RegionData) (name other : List ℕ)
    → IsForest rs → region_at rs n ≡ Some r → r.parent ≡ Some q
    → HasDomain (with_name rs n Domains name) other q ↔ HasDomain rs other q
