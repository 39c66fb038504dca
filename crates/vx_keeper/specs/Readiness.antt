-- What is made before the windows of sectors are closed.
use Rattle.std.specs.List.{All}
use Rattle.std.specs.Prelude.{◌≡◌, ℕ, ◌<◌, ◌≤◌, true, false, List, [], length, map, slice_get, slice_index_or, vec_capacity, Option, None, Some}
use Rattle.vx_cells.specs.SectorCells.{SectorCells}
use Rattle.vx_cells.specs.Maps.{AreSectors, MapData}
use Rattle.vx_cells.specs.Wholes.{with_cells_on}
use Rattle.vx_geom.specs.Sizes.{Sizes}
use Rattle.vx_policy.specs.declared.version.Version.{Version}
use Rattle.vx_region.specs.Regions.{Regions}
use Rattle.vx_sector.specs.SectorData.{SectorData}
use Rattle.vx_still.specs.Watching.{IsWatch}
use Rattle.vx_record.specs.Kept.{busy_count}
use Rattle.vx_windows.specs.Sectors.{AreQuiet, cells_of, entries_of, map_changed, nexts, window_over, with_changes}
use Rattle.vx_keeper.specs.Busy.{AreNextOf, resting_but, with_each}
use Rattle.vx_keeper.specs.Keepers.{KeeperData, map_by, map_next, fates_next, version_next}
use Rattle.vx_keeper.specs.Marks.{AreLed, IsSamePolicy, WorldData, is_given}
use Rattle.vx_keeper.specs.declared.next_window.NextWindow.{NextWindow}
use Rattle.vx_keeper.specs.declared.ready.Ready.{Ready}
use Rattle.vx_keeper.specs.declared.ready_at_rest.ReadyAtRest.{ReadyAtRest}
use Rattle.vx_keeper.specs.declared.ready_for_busy.ReadyForBusy.{ReadyForBusy}
use Rattle.vx_keeper.specs.declared.work.Work.{Work}

-- what is given for the next windows of these sectors: nothing only where nothing was recorded, and
-- else a window over the cells that changed
pub record AreBegun (sectors : List SectorData) (ready : Ready) : Type 0 where
  pub unchanged : AreQuiet sectors ready.changes.items
  pub quiet : AreQuiet sectors ready.fresh.items
  pub fresh : nexts ready.version.tick sectors ready.fresh.items
      ≡ map (window_over ready.version) (with_changes (map cells_of sectors) ready.changes.items)
  pub none : ready.windows.items ≡ []
  pub room : length sectors ≤ vec_capacity ready.windows
  pub none_kept : ready.kept.items ≡ []
  pub room_kept : busy_count (map entries_of sectors) ≤ vec_capacity ready.kept

-- it is of this work on these sectors, whose next windows this version judges
pub record IsReady (sizes : Sizes) (sectors : List SectorData) (work : Work) (next : Version)
    (ready : Ready) : Type 0 where
  pub version : ready.version ≡ next
  pub fates : ready.fates.items ≡ work.plan.fates.items
  pub told : ready.told.items ≡ work.plan.fates.items
  pub watch : ready.watch ≡ work.watch
  pub after : map_changed sizes sectors ready.changes.items
      ≡ with_cells_on (map_by sizes (map cells_of sectors)) work.plan.puts.items
  pub begun : AreBegun sectors ready

-- what was made suits the tick that closes the windows of these sectors: it has the map after the
-- tick, and the version that the tick fixes
pub record CanClose (first : Regions) (k : KeeperData) (sectors : List SectorData) (ready : Ready)
    : Type 0 where
  pub after : map_changed k.world.map.sizes sectors ready.changes.items ≡ map_next k sectors
  pub placed : AreSectors k.world.map.sizes
      (with_changes (map cells_of sectors) ready.changes.items)
  pub fates : ready.fates.items ≡ fates_next k sectors
  pub told : ready.told.items ≡ fates_next k sectors
  pub watch : IsWatch (map_next k sectors) ready.watch
  pub version : ready.version ≡ version_next first k
  pub begun : AreBegun sectors ready

-- the sector of that number begins its next window over its part of these cells, judged by this
-- version
abbrev pub IsNext : Version → List SectorCells → NextWindow → Type 0
IsNext version cells next =
    (slice_get cells next.number ≡ Some next.fresh.cells) × (next.fresh.version ≡ version)

-- so does each for which the list has something, over its cells with what changed of them; of so
-- many sectors it has something for each, but for those of which nothing changes
abbrev pub AreNext : Version → List SectorCells → List (Option SectorCells) → ℕ
    → List NextWindow → Type 0
AreNext version cells changes count all =
    All (IsNext version (with_changes cells changes)) all
    × ((n : ℕ) → n < count → is_given n all ≡ false → slice_index_or changes n None ≡ None)

-- it is of this work on this map, which these windows have left of the world that is known, and
-- whose next windows this version judges
pub record IsReadyAtRest (world : WorldData) (now : MapData) (work : Work) (next : Version)
    (ready : ReadyAtRest) : Type 0 where
  pub version : ready.version ≡ next
  pub fates : ready.fates.items ≡ work.plan.fates.items
  pub told : ready.told.items ≡ work.plan.fates.items
  pub watch : ready.watch ≡ work.watch
  pub few : length ready.changes.items ≤ length world.map.sectors
  pub after : map_by world.map.sizes (with_changes world.map.sectors ready.changes.items)
      ≡ with_cells_on now work.plan.puts.items
  pub led : AreLed (length world.map.sectors) world
      (record { map = with_cells_on now work.plan.puts.items; version = next })
      ready.next.items
  pub same : ready.is_same_policy ≡ true → IsSamePolicy world.version next

-- what was made suits the tick that closes the windows of these sectors: it leads from the world
-- that is known to the map after the tick and the version that the tick fixes
pub record CanLead (first : Regions) (k : KeeperData) (sectors : List SectorData)
    (ready : ReadyAtRest) : Type 0 where
  pub few : length ready.changes.items ≤ length k.world.map.sectors
  pub after : map_by k.world.map.sizes (with_changes k.world.map.sectors ready.changes.items)
      ≡ map_next k sectors
  pub placed : AreSectors k.world.map.sizes
      (with_changes k.world.map.sectors ready.changes.items)
  pub fates : ready.fates.items ≡ fates_next k sectors
  pub told : ready.told.items ≡ fates_next k sectors
  pub watch : IsWatch (map_next k sectors) ready.watch
  pub version : ready.version ≡ version_next first k
  pub led : AreLed (length k.world.map.sectors) k.world
      (record { map = map_next k sectors; version = version_next first k }) ready.next.items
  pub same : ready.is_same_policy ≡ true → IsSamePolicy k.world.version (version_next first k)

-- there is room for the windows of these sectors, which begin their next ones over their parts of
-- these cells, judged by this version
pub record CanRenew (cells : List SectorCells) (version : Version) (sectors : List SectorData)
    (ready : ReadyForBusy) : Type 0 where
  pub fresh : AreNextOf cells version sectors ready.fresh.items
  pub none_kept : ready.kept.items ≡ []
  pub room_kept : length sectors ≤ vec_capacity ready.kept

-- it is of this work on a world in which nothing is recorded but in these sectors, and whose next
-- windows this version judges
pub record IsReadyForBusy (world : WorldData) (sectors : List SectorData) (work : Work)
    (next : Version) (ready : ReadyForBusy) : Type 0 where
  pub lead : IsReadyAtRest world
      (map_by world.map.sizes (with_each cells_of world.map.sectors sectors)) work next ready.lead
  pub renew : CanRenew (with_changes world.map.sectors ready.lead.changes.items) next sectors ready

-- what was made suits the tick of a world in which nothing is recorded but in these sectors
pub record CanCloseBusy (first : Regions) (k : KeeperData) (sectors : List SectorData)
    (ready : ReadyForBusy) : Type 0 where
  pub lead : CanLead first k (resting_but k sectors) ready.lead
  pub renew : CanRenew (map_next k (resting_but k sectors)).sectors (version_next first k) sectors
      ready
