-- Sectors in which something was recorded since the last tick, among all of a world.
use Rattle.std.specs.Prelude.{◌≡◌, ℕ, ◌<◌, List, [], ◌∷◌, length, replicate, slice_get, slice_set, Some, AllPairs}
use Rattle.std.specs.Bool.{⊤}
use Rattle.std.specs.List.{All}
use Rattle.vx_cells.specs.SectorCells.{SectorCells}
use Rattle.vx_policy.specs.declared.version.Version.{Version}
use Rattle.vx_sector.specs.SectorData.{FreshData, SectorData}
use Rattle.vx_windows.specs.Sectors.{entries_of}
use Rattle.vx_record.specs.Kept.{AreInOrder, windows_kept}
use Rattle.vx_record.specs.Settling.{IsKnown}
use Rattle.vx_record.specs.declared.kept_window.KeptWindow.{KeptWindow}
use Rattle.vx_keeper.specs.Keepers.{KeeperData, known, resting}

-- what a list has for the sectors of a world, by their numbers, with what is told of these sectors
-- in the places of theirs
abbrev pub with_each : {X : Type 0} → (SectorData → X) → List X → List SectorData → List X
with_each f xs [] = xs
with_each f xs (s ∷ busy) = with_each f (slice_set xs s.base.sector (f s)) busy

-- the sectors of a world in which nothing is recorded since the last tick but in these
abbrev pub resting_but : KeeperData → List SectorData → List SectorData
resting_but k busy = with_each (λ s. s) (resting k) busy

-- each is of a higher number than those before it
abbrev pub AreAscending : List SectorData → Type 0
AreAscending sectors = AllPairs (λ s later. s.base.sector < later.base.sector) sectors

-- each is what the keeper has of the sector of its number, and they stand in order
abbrev pub AreBusyOf : KeeperData → List SectorData → Type 0
AreBusyOf k busy =
    All (λ s. (s.base.sector < length k.counts) × IsKnown (Some s) (known k s.base.sector)) busy
    × AreAscending busy

-- what is kept of their windows: in order, those of them that have entries, however many sectors
-- there are in all
abbrev pub AreKeptOf : List SectorData → List KeptWindow → Type 0
AreKeptOf busy kept =
    (count : ℕ) → All (λ s. s.base.sector < count) busy
    → AreInOrder count kept
    × (windows_kept count kept ≡ with_each entries_of (replicate count []) busy)

-- each of these sectors is given its part of these cells for its next window, judged by this
-- version, and none is left
abbrev pub AreNextOf : List SectorCells → Version → List SectorData → List FreshData → Type 0
AreNextOf cells version [] [] = ⊤
AreNextOf cells version (s ∷ sectors) (fresh ∷ all) =
    ((slice_get cells s.base.sector ≡ Some fresh.cells) × (fresh.version ≡ version))
    × AreNextOf cells version sectors all
AreNextOf cells version sectors all = ⊥
