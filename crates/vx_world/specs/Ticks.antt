-- What a tick leaves in the keeper of a world.
use mathlib.Core.List.{IsPrefix}
use Rattle.std.specs.List.{All}
use Rattle.std.specs.Prelude.{◌≡◌, ℕ, ◌+◌, ◌<◌, ◌≤◌, List, length, map, Some}
use Rattle.vx_geom.specs.declared.pos.Pos.{Pos}
use Rattle.vx_region.specs.Regions.{Regions}
use Rattle.vx_sector.specs.SectorData.{SectorData}
use Rattle.vx_sector.specs.Windows.{count_of}
use Rattle.vx_tick.specs.declared.fate.Fate.{Fate}
use Rattle.vx_record.specs.Chronicles.{version_by}
use Rattle.vx_record.specs.Settling.{AreKnown}
use Rattle.vx_keeper.specs.Keepers.{KeeperData, known, map_next, fates_next, chronicle_next}

-- the keeper after the tick that closes the windows of these sectors, which are what it had of
-- them; their next windows are judged by all edits that it has seen by then
pub record IsTickOf (first : Regions) (all : ℕ) (before : KeeperData) (sectors : List SectorData)
    (after : KeeperData) : Type 0 where
  pub each : length sectors ≡ all
  pub known : AreKnown (known before) (map Some sectors)
  pub chronicle : after.chronicle ≡ chronicle_next before sectors
  pub counts : after.counts ≡ map count_of sectors
  pub map : after.world.map ≡ map_next before sectors
  pub version : after.world.version
      ≡ version_by first after.seen (length after.seen) (length before.chronicle.ticks + 2)
  pub seen : IsPrefix before.seen after.seen

-- the keeper after a tick of some sectors, with these fates
abbrev pub HasTicked : Regions → ℕ → KeeperData → List (Pos × Fate) → KeeperData → Type 0
HasTicked first all before fates after = (sectors : List SectorData)
    × IsTickOf first all before sectors after × (fates ≡ fates_next before sectors)

-- numbers of so many sectors, no more of them than there are sectors
abbrev pub AreNumbers : ℕ → List ℕ → Type 0
AreNumbers count numbers = (length numbers ≤ count) × All (λ n. n < count) numbers
