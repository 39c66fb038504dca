-- A keeper: what it knows of its world, and the ticks that it makes.
use mathlib.Core.List.{IsPrefix}
use Rattle.std.specs.Prelude.{◌≡◌, ℕ, ◌+◌, ◌≤◌, Bool, List, [], ◌∷◌, ◌++◌, length, map, slice_index, slice_index_or}
use Rattle.std.specs.List.{All}
use Rattle.vx_cells.specs.Maps.{MapData}
use Rattle.vx_cells.specs.SectorCells.{SectorCells, only_air}
use Rattle.vx_cells.specs.Wholes.{IsMap}
use Rattle.vx_geom.specs.Sizes.{Sizes}
use Rattle.vx_geom.specs.declared.pos.Pos.{Pos}
use Rattle.vx_policy.specs.Asked.{Asked}
use Rattle.vx_policy.specs.Edits.{AreAccepted}
use Rattle.vx_policy.specs.declared.version.Version.{Version}
use Rattle.vx_region.specs.Regions.{Regions}
use Rattle.vx_sector.specs.SectorData.{SectorData}
use Rattle.vx_sector.specs.Windows.{most_entries}
use Rattle.vx_tick.specs.Ticks.{fates_on, stepped}
use Rattle.vx_tick.specs.declared.fate.Fate.{Fate}
use Rattle.vx_windows.specs.Sectors.{cells_of, entries_of, first_version, opened_by}
use Rattle.vx_windows.specs.Limits.{most_ticks}
use Rattle.vx_record.specs.Chronicles.{TickData, ChronicleData, AreGrown, map_after, version_by}
use Rattle.vx_record.specs.Archives.{ArchiveData, IsArchive}
use Rattle.vx_record.specs.Settling.{KnownData}
use Rattle.vx_keeper.specs.Marks.{WorldData}

-- a keeper: the chronicle, how many entries of each sector are closed in it, the world as its
-- windows began, the edits that it has seen, and whether the chronicle has room for a tick more
pub record KeeperData : Type 0 where
  pub chronicle : ChronicleData
  pub counts : List ℕ
  pub world : WorldData
  pub seen : List Asked
  pub is_roomy : Bool

abbrev pub keeper_data : ArchiveData → WorldData → List Asked → KeeperData
keeper_data archive world seen = record {
  chronicle = archive.chronicle;
  counts = archive.counts;
  world = world;
  seen = seen;
  is_roomy = archive.is_roomy;
}

-- the versions of these ticks, and the next one after them, are by these edits, each accepted in
-- its turn: by no fewer from one to the next, and the first of all by none
pub record AreByEdits (first : Regions) (edits : List Asked) (ticks : List TickData) (next : Version)
    : Type 0 where
  pub accepted : AreAccepted first edits
  pub begins : ticks ≡ [] → next ≡ first_version first
  pub grown : AreGrown first edits 0 ticks next.edits
  pub last : next ≡ version_by first edits next.edits (length ticks + 1)
  pub within : next.edits ≤ length edits

-- no sector has more entries than it may
abbrev pub AreFew : List ℕ → Type 0
AreFew counts = All (λ n. n ≤ most_entries) counts

-- what holds of every keeper of a world with so many sectors, whose desk was opened with this
-- policy: its chronicle is what the one-threaded rules give, the world is the map after its ticks,
-- judged by the version of the next, all versions are by edits that it has seen, and no sector has
-- more entries than it may
pub record IsKeeper (first : Regions) (sectors : ℕ) (k : KeeperData) : Type 0 where
  pub archive : IsArchive k.chronicle k.counts
  pub opening : k.chronicle.opening.policy ≡ first
  pub all : length k.counts ≡ sectors
  pub each : length k.world.map.sectors ≡ sectors
  pub whole : IsMap k.world.map
  pub map : k.world.map ≡ map_after k.chronicle.opening.terrain k.chronicle.ticks
  pub edits : AreByEdits first k.seen k.chronicle.ticks k.world.version
  pub most : length k.chronicle.ticks ≤ most_ticks
  pub few : AreFew k.counts

-- what it has of the sector of number n
abbrev pub known : KeeperData → ℕ → KnownData
known k n = record {
  base = slice_index_or k.world.map.sectors n (only_air k.world.map.sizes n);
  version = k.world.version;
  closed = slice_index k.counts n;
  names = k.chronicle.opening.names;
}

-- the version that the next tick fixes: the policy after all edits that the keeper has seen
abbrev pub version_next : Regions → KeeperData → Version
version_next first k = version_by first k.seen (length k.seen) (length k.chronicle.ticks + 2)

-- the map of a world of this size with these cells, sector by sector
abbrev pub map_by : Sizes → List SectorCells → MapData
map_by sizes cells = record { sizes = sizes; sectors = cells }

-- the map after the windows of these sectors
abbrev pub map_now : KeeperData → List SectorData → MapData
map_now k sectors = map_by k.world.map.sizes (map cells_of sectors)

-- the map after the tick that closes them, which the version judges that judged the windows
abbrev pub map_next : KeeperData → List SectorData → MapData
map_next k sectors = stepped k.world.version.policy (map_now k sectors)

-- what becomes of the moves of that tick
abbrev pub fates_next : KeeperData → List SectorData → List (Pos × Fate)
fates_next k sectors = fates_on k.world.version.policy (map_now k sectors)

-- the chronicle with that tick
abbrev pub chronicle_next : KeeperData → List SectorData → ChronicleData
chronicle_next k sectors = record k.chronicle {
  ticks = k.chronicle.ticks ++ record {
    number = length k.chronicle.ticks + 1;
    version = k.world.version;
    windows = map entries_of sectors;
    fates = fates_next k sectors;
  } ∷ [];
}

-- the keeper knows what it knew, though it may have seen more edits
pub record KnowsAsBefore (before after : KeeperData) : Type 0 where
  pub chronicle : after.chronicle ≡ before.chronicle
  pub counts : after.counts ≡ before.counts
  pub world : after.world ≡ before.world
  pub seen : IsPrefix before.seen after.seen

-- a sector that rests: its window began with these cells, nothing is recorded in it, and so many
-- entries are closed
abbrev pub at_rest : Version → SectorCells → ℕ → SectorData
at_rest version cells closed = record (opened_by version cells) { closed = closed }

-- so is each sector, of which these are the cells and the counts of closed entries
abbrev pub all_at_rest : Version → List SectorCells → List ℕ → List SectorData
all_at_rest version (c ∷ cells) (n ∷ counts) =
    at_rest version c n ∷ all_at_rest version cells counts
all_at_rest version cells counts = []

-- the sectors of a world in which nothing is recorded since the last tick
abbrev pub resting : KeeperData → List SectorData
resting k = all_at_rest k.world.version k.world.map.sectors k.counts
