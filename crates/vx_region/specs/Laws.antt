use Rattle.std.specs.Prelude.{ℕ, ◌≡◌, ◌≢◌, ◌+◌, ◌⊎◌, ◌↔◌, IsTrue, IsSome, IsSomeAnd, false, List, ◌∷◌, Some, None, slice_get, Option, option_map}
use Rattle.vx_geom.specs.Outline.{Outline}
use Rattle.vx_region.specs.Ancestry.{ancestors, from_parent, is_above}
use Rattle.vx_region.specs.Association.{association}
use Rattle.vx_region.specs.Forest.{IsNumbered, IsForest}
use Rattle.vx_region.specs.IdIndex.{HaveOwnIds, NoneIsGlobal}
use Rattle.vx_name.specs.Names.{names}
use Rattle.vx_region.specs.Regions.{RegionData, Regions, region_at, parent_of, number_of, names_of, fresh_region, with_region, without_region, with_name, without_name, setting_at, HasSettings, changed, with_flag}
use Rattle.vx_region.specs.Subjects.{Actor}
use Rattle.vx_region.specs.declared.roster.Roster.{Roster}
use Rattle.vx_flag.specs.declared.association.Association.TheVariants.{Stranger}
use Rattle.vx_flag.specs.declared.flag.Flag.{Flag}
use Rattle.vx_flag.specs.declared.setting.Setting.{Setting}

-- a number that stands at a place is the number of the region there
abbrev pub EachHasItsNumber : Type 0
EachHasItsNumber = (rs : Regions) (i n : ℕ) (r : RegionData)
    → IsNumbered rs → slice_get rs.entries i ≡ Some (n, r) → region_at rs n ≡ Some r

-- the region that was defined has the number after the last
abbrev pub DefinedIsFresh : Type 0
DefinedIsFresh = (rs : Regions) (id : List ℕ) (shape : Outline)
    → IsNumbered rs
    → region_at (with_region rs id shape) (rs.last + 1) ≡ Some (fresh_region id shape)

-- a definition leaves every other number as it was
abbrev pub DefinitionKeepsOthers : Type 0
DefinitionKeepsOthers = (rs : Regions) (id : List ℕ) (shape : Outline) (n : ℕ)
    → n ≢ rs.last + 1 → region_at (with_region rs id shape) n ≡ region_at rs n

-- the region that was defined is found by its id, where the id was free
abbrev pub DefinedIsFound : Type 0
DefinedIsFound = (rs : Regions) (id : List ℕ) (shape : Outline)
    → number_of rs id ≡ None → number_of (with_region rs id shape) id ≡ Some (rs.last + 1)

-- each other id is found as before
abbrev pub DefinitionKeepsIds : Type 0
DefinitionKeepsIds = (rs : Regions) (id other : List ℕ) (shape : Outline)
    → other ≢ id → number_of (with_region rs id shape) other ≡ number_of rs other

-- a region is found by its id, where no two have the same and none that of the world at large
abbrev pub IdFindsItsRegion : Type 0
IdFindsItsRegion = (rs : Regions) (n : ℕ) (r : RegionData)
    → HaveOwnIds rs.entries → NoneIsGlobal rs.entries
    → region_at rs n ≡ Some r → number_of rs r.id ≡ Some n

-- exactly those are named that were before, and this one
abbrev pub NamesOneMore : List (List ℕ) → List ℕ → List (List ℕ) → Type 0
NamesOneMore old name new = (other : List ℕ)
    → IsTrue (names new other) ↔ (IsTrue (names old other) ⊎ (other ≡ name))

-- a region has one name more on a roster and is as before otherwise
pub record GainsName (roster : Roster) (name : List ℕ) (old new : RegionData) : Type 0 where
  pub id : new.id ≡ old.id
  pub shape : new.shape ≡ old.shape
  pub priority : new.priority ≡ old.priority
  pub parent : new.parent ≡ old.parent
  pub named : NamesOneMore (names_of roster old) name (names_of roster new)
  pub others : (other : Roster) → other ≢ roster → names_of other new ≡ names_of other old
  pub settings : new.settings ≡ old.settings

abbrev pub NameIsAdded : Type 0
NameIsAdded = (rs : Regions) (n : ℕ) (roster : Roster) (name : List ℕ) (old : RegionData)
    → region_at rs n ≡ Some old
    → IsSomeAnd (region_at (with_name rs n roster name) n) (GainsName roster name old)

-- another region keeps its names and all else
abbrev pub AddingKeepsOthers : Type 0
AddingKeepsOthers = (rs : Regions) (n m : ℕ) (roster : Roster) (name : List ℕ)
    → m ≢ n → region_at (with_name rs n roster name) m ≡ region_at rs m

-- the ancestry of a region is the region, and then the whole ancestry of its parent
abbrev pub AncestryIsWhole : Type 0
AncestryIsWhole = (rs : Regions) (n : ℕ)
    → IsForest rs → ancestors rs n ≡ n ∷ from_parent (ancestors rs) (parent_of rs n)

-- no region is among its own ancestors
abbrev pub NoCycles : Type 0
NoCycles = (rs : Regions) (n : ℕ) (r : RegionData)
    → IsForest rs → region_at rs n ≡ Some r → is_above rs n r ≡ false

-- the parent of a region is a region of the set
abbrev pub ParentsAreThere : Type 0
ParentsAreThere = (rs : Regions) (n q : ℕ) (r : RegionData)
    → IsForest rs → region_at rs n ≡ Some r → r.parent ≡ Some q → IsSome (region_at rs q)

-- a region that was taken away is there no more
abbrev pub RemovedIsGone : Type 0
RemovedIsGone = (rs : Regions) (n : ℕ) → region_at (without_region rs n) n ≡ None

-- each other region is as before
abbrev pub RemovalKeepsOthers : Type 0
RemovalKeepsOthers = (rs : Regions) (n m : ℕ)
    → m ≢ n → region_at (without_region rs n) m ≡ region_at rs m

-- and its number is not given again
abbrev pub RemovalKeepsLast : Type 0
RemovalKeepsLast = (rs : Regions) (n : ℕ) → (without_region rs n).last ≡ rs.last

-- its id is free again
abbrev pub RemovalFreesTheId : Type 0
RemovalFreesTheId = (rs : Regions) (n : ℕ) (r : RegionData)
    → HaveOwnIds rs.entries → NoneIsGlobal rs.entries
    → region_at rs n ≡ Some r → number_of (without_region rs n) r.id ≡ None

-- each other id is found as before
abbrev pub RemovalKeepsIds : Type 0
RemovalKeepsIds = (rs : Regions) (n : ℕ) (r : RegionData) (other : List ℕ)
    → IsNumbered rs → region_at rs n ≡ Some r → other ≢ r.id
    → number_of (without_region rs n) other ≡ number_of rs other

-- exactly those are named that were before, without this one
abbrev pub NamesOneLess : List (List ℕ) → List ℕ → List (List ℕ) → Type 0
NamesOneLess old name new = (other : List ℕ)
    → IsTrue (names new other) ↔ (IsTrue (names old other) × (other ≢ name))

-- a region has one name less on a roster and is as before otherwise
pub record LosesName (roster : Roster) (name : List ℕ) (old new : RegionData) : Type 0 where
  pub id : new.id ≡ old.id
  pub shape : new.shape ≡ old.shape
  pub priority : new.priority ≡ old.priority
  pub parent : new.parent ≡ old.parent
  pub named : NamesOneLess (names_of roster old) name (names_of roster new)
  pub others : (other : Roster) → other ≢ roster → names_of other new ≡ names_of other old
  pub settings : new.settings ≡ old.settings

abbrev pub NameIsDropped : Type 0
NameIsDropped = (rs : Regions) (n : ℕ) (roster : Roster) (name : List ℕ) (old : RegionData)
    → region_at rs n ≡ Some old
    → IsSomeAnd (region_at (without_name rs n roster name) n) (LosesName roster name old)

-- another region keeps its names and all else
abbrev pub DroppingKeepsOthers : Type 0
DroppingKeepsOthers = (rs : Regions) (n m : ℕ) (roster : Roster) (name : List ℕ)
    → m ≢ n → region_at (without_name rs n roster name) m ≡ region_at rs m

-- after a change of a region, the number has the changed region
abbrev pub ChangeIsThere : Type 0
ChangeIsThere = (change : RegionData → RegionData) (rs : Regions) (n : ℕ)
    → region_at (changed change n rs) n ≡ option_map change (region_at rs n)

-- and each other number has the region that it had
abbrev pub ChangeKeepsOthers : Type 0
ChangeKeepsOthers = (change : RegionData → RegionData) (rs : Regions) (n m : ℕ)
    → m ≢ n → region_at (changed change n rs) m ≡ region_at rs m

-- a flag is what it was set to, where it can be set
abbrev pub FlagIsSet : Type 0
FlagIsSet = (rs : Regions) (n : ℕ) (f : Flag) (o : Option Setting)
    → HasSettings rs n → setting_at (with_flag rs n f o) n f ≡ o

-- each other flag, and the same flag elsewhere, is as it was
abbrev pub FlagKeepsOthers : Type 0
FlagKeepsOthers = (rs : Regions) (n m : ℕ) (f g : Flag) (o : Option Setting)
    → (m ≢ n) ⊎ (g ≢ f) → setting_at (with_flag rs n f o) m g ≡ setting_at rs m g

-- everyone, player or machine, is a stranger to the world at large
abbrev pub StrangerAtLarge : Type 0
StrangerAtLarge = (rs : Regions) (actor : Actor) → IsNumbered rs → association rs actor 0 ≡ Stranger

-- the flags of the world at large are the same in both
abbrev pub SameFlagsAtLarge : Regions → Regions → Type 0
SameFlagsAtLarge rs s = (f : Flag) → setting_at s 0 f ≡ setting_at rs 0 f

-- a change of a region leaves the flags of the world at large
abbrev pub ChangeKeepsTheWorld : Type 0
ChangeKeepsTheWorld = (change : RegionData → RegionData) (rs : Regions) (n : ℕ)
    → SameFlagsAtLarge rs (changed change n rs)

-- so does a definition
abbrev pub DefinitionKeepsTheWorld : Type 0
DefinitionKeepsTheWorld = (rs : Regions) (id : List ℕ) (shape : Outline)
    → SameFlagsAtLarge rs (with_region rs id shape)

-- so does a removal
abbrev pub RemovalKeepsTheWorld : Type 0
RemovalKeepsTheWorld = (rs : Regions) (n : ℕ) → SameFlagsAtLarge rs (without_region rs n)

-- so does a flag of a region
abbrev pub FlagKeepsTheWorld : Type 0
FlagKeepsTheWorld = (rs : Regions) (n : ℕ) (f : Flag) (o : Option Setting)
    → n ≢ 0 → SameFlagsAtLarge rs (with_flag rs n f o)
