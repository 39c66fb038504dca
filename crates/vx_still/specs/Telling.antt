-- What is marked for dust of which the level is another than it stores.
use Rattle.std.specs.Prelude.{◌≡◌, ◌⊎◌, ℕ, true, List}
use Rattle.vx_geom.specs.declared.pos.Pos.{Pos}
use Rattle.vx_geom.specs.declared.dir.Dir.{Dir}
use Rattle.vx_geom.specs.Neighbor.{neighbor}
use Rattle.vx_block.specs.Components.{is_device}
use Rattle.vx_block.specs.Conductors.{conducts}
use Rattle.vx_cells.specs.Maps.{MapData, cell_on}
use Rattle.vx_places.specs.Places.{PlacesData, is_at}
use Rattle.vx_power.specs.Levels.{has}
use Rattle.vx_power.specs.Turning.{has_power, EachHeeded}
use Rattle.vx_still.specs.Stillness.{stored_on}

-- p is marked, if a device stands there
abbrev pub IsMarked : MapData → PlacesData → Pos → Type 0
IsMarked m places p = is_device (cell_on m p) ≡ true → is_at places p ≡ true

-- so is each device that heeds what stands at p
abbrev pub HasHeeders : MapData → PlacesData → Pos → Type 0
HasHeeders m places p = EachHeeded (cell_on m) p (IsMarked m places)

-- those of them in one direction
abbrev pub AreMarkedBeside : MapData → PlacesData → Pos → Dir → Type 0
AreMarkedBeside m places p d =
    IsMarked m places (neighbor p d)
    × ((e : Dir) → conducts (cell_on m (neighbor p d)) ≡ true
    → IsMarked m places (neighbor (neighbor p d) e))

-- and those that heed what stands at any of these positions
abbrev pub AreMarkedFrom : MapData → PlacesData → List Pos → Type 0
AreMarkedFrom m places ps = (p : Pos) → has ps p ≡ true → HasHeeders m places p

-- the level at p is what is stored there, or p is marked; and it gained or lost no power, or each
-- device that heeds it is marked
pub record IsTold (m : MapData) (level : Pos → ℕ) (places : PlacesData) (p : Pos) : Type 0 where
  pub own : (level p ≡ stored_on m p) ⊎ (is_at places p ≡ true)
  pub near : (has_power level p ≡ has_power (stored_on m) p) ⊎ HasHeeders m places p

-- what was marked is so still
abbrev pub KeepsMarks : PlacesData → PlacesData → Type 0
KeepsMarks old new = (q : Pos) → is_at old q ≡ true → is_at new q ≡ true

-- each of these positions is told
abbrev pub AreTold : MapData → (Pos → ℕ) → PlacesData → List Pos → Type 0
AreTold m level places ps = (p : Pos) → has ps p ≡ true → IsTold m level places p
