-- What a player and a machine are to a region.
use Rattle.std.specs.Prelude.{◌≡◌, ◌↔◌, ◌⊎◌, ℕ, true, List, Some, Contains}
use Rattle.vx_flag.specs.declared.association.Association.TheVariants.{Owner, Member, Stranger}
use Rattle.vx_geom.specs.declared.pos.Pos.{Pos}
use Rattle.vx_geom.specs.Outline.{is_in}
use Rattle.vx_region.specs.Ancestry.{ancestors}
use Rattle.vx_region.specs.Association.{association}
use Rattle.vx_region.specs.Forest.{IsNumbered}
use Rattle.vx_region.specs.Regions.{RegionData, Regions, region_at, names_of}
use Rattle.vx_region.specs.Subjects.{Named, Machine}
use Rattle.vx_region.specs.declared.roster.Roster.{Roster}
use Rattle.vx_region.specs.declared.roster.Roster.TheVariants as roster

-- the region of the number, or one of its ancestors, has the name on that roster
pub record IsNamed (rs : Regions) (r : Roster) (name : List ℕ) (n : ℕ) : Type 0 where
  pub by : ℕ
  pub line : Contains (ancestors rs n) by
  pub region : RegionData
  pub there : region_at rs by ≡ Some region
  pub named : Contains (names_of r region) name

-- the region of the number itself contains the place
pub record IsStoodIn (rs : Regions) (p : Pos) (n : ℕ) : Type 0 where
  pub region : RegionData
  pub there : region_at rs n ≡ Some region
  pub inside : is_in region.shape p ≡ true

-- it, or one of them, lists the domain
abbrev pub HasDomain : Regions → List ℕ → ℕ → Type 0
HasDomain rs name n = IsNamed rs roster.Domains name n

-- some region that contains the place itself has a domain in common with that of the number
pub record IsInDomain (rs : Regions) (p : Pos) (n : ℕ) : Type 0 where
  pub by : ℕ
  pub stood : IsStoodIn rs p by
  pub name : List ℕ
  pub here : HasDomain rs name by
  pub there : HasDomain rs name n

-- what a player is to the region of the number
pub record IsPlayersStanding (rs : Regions) (name : List ℕ) (n : ℕ) : Type 0 where
  pub owner : (association rs (Named name) n ≡ Owner) ↔ IsNamed rs roster.Owners name n
  pub member : (association rs (Named name) n ≡ Member)
      ↔ ((IsNamed rs roster.Owners name n → ⊥) × IsNamed rs roster.Members name n)
  pub stranger : (association rs (Named name) n ≡ Stranger)
      ↔ ((IsNamed rs roster.Owners name n → ⊥) × (IsNamed rs roster.Members name n → ⊥))

-- what a machine at the place is to it
pub record IsMachinesStanding (rs : Regions) (p : Pos) (n : ℕ) : Type 0 where
  pub owner : (association rs (Machine p) n ≡ Owner) ↔ (IsStoodIn rs p n ⊎ IsInDomain rs p n)
  pub stranger : (association rs (Machine p) n ≡ Stranger)
      ↔ ((IsStoodIn rs p n → ⊥) × (IsInDomain rs p n → ⊥))

abbrev pub PlayersStand : Type 0
PlayersStand = (rs : Regions) (name : List ℕ) (n : ℕ) → IsPlayersStanding rs name n

abbrev pub MachinesStand : Type 0
MachinesStand = (rs : Regions) (p : Pos) (n : ℕ) → IsNumbered rs → IsMachinesStanding rs p n
