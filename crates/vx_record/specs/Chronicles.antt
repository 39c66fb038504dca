-- The chronicle of a world: how it opened, and each of its ticks, with the record of the commands
-- before it.
use Rattle.std.specs.Prelude.{◌≡◌, ℕ, ◌+◌, ◌≤◌, ⊤, List, [], ◌∷◌, take, slice_get, Some}
use Rattle.std.specs.List.{All}
use Rattle.vx_geom.specs.declared.pos.Pos.{Pos}
use Rattle.vx_cells.specs.Maps.{MapData}
use Rattle.vx_cells.specs.SectorCells.{SectorCells}
use Rattle.vx_region.specs.Regions.{Regions}
use Rattle.vx_policy.specs.Asked.{Asked}
use Rattle.vx_policy.specs.Edits.{after}
use Rattle.vx_policy.specs.declared.version.Version.{Version}
use Rattle.vx_sector.specs.SectorData.{SeatData, EntryData}
use Rattle.vx_sector.specs.Windows.{cells_after, IsWindow}
use Rattle.vx_tick.specs.declared.fate.Fate.{Fate}
use Rattle.vx_tick.specs.Ticks.{fates_on, stepped}
use Rattle.vx_windows.specs.Sectors.{first_version}
use Rattle.vx_record.specs.Openings.{OpeningData}

-- a tick: its number, the version of the policy that judged it and the commands before it, the
-- record of each sector's window in order of the sectors, and the fates of its machines
pub record TickData : Type 0 where
  pub number : ℕ
  pub version : Version
  pub windows : List (List EntryData)
  pub fates : List (Pos × Fate)

pub record ChronicleData : Type 0 where
  pub opening : OpeningData
  pub ticks : List TickData

-- the cells of each sector after its window
abbrev pub all_after : List SectorCells → List (List EntryData) → List SectorCells
all_after [] windows = []
all_after cs [] = cs
all_after (c ∷ cs) (window ∷ windows) = cells_after c window ∷ all_after cs windows

-- the map after the windows of a tick
abbrev pub map_acted : MapData → TickData → MapData
map_acted m tick = record m { sectors = all_after m.sectors tick.windows }

-- the map after a tick: its machines step after its commands
abbrev pub map_ticked : MapData → TickData → MapData
map_ticked m tick = stepped tick.version.policy (map_acted m tick)

-- the map after ticks, one after another
abbrev pub map_after : MapData → List TickData → MapData
map_after m [] = m
map_after m (tick ∷ ticks) = map_after (map_ticked m tick) ticks

-- the seat is that of the name with its number
abbrev pub IsSeatOf : List (List ℕ) → SeatData → Type 0
IsSeatOf names seat = slice_get names seat.number ≡ Some seat.name

-- each of these commands was made from such a seat
abbrev pub AreSeated : List (List ℕ) → List EntryData → Type 0
AreSeated names entries = All (λ (entry : EntryData). IsSeatOf names entry.seat) entries

-- each sector has one window over its cells, by this policy, with commands from these seats alone
abbrev pub AreWindows : List (List ℕ) → Regions → List SectorCells → List (List EntryData) → Type 0
AreWindows names policy [] [] = ⊤
AreWindows names policy (c ∷ cs) (window ∷ windows) =
    IsWindow policy c window × AreSeated names window × AreWindows names policy cs windows
AreWindows names policy cs windows = ⊥

-- a tick of this number on a map: its windows begin with the cells of the map, each command is
-- answered by its version of the policy, and the fates are those of the machines after them
pub record IsTickOn (names : List (List ℕ)) (m : MapData) (n : ℕ) (tick : TickData) : Type 0 where
  pub number : tick.number ≡ n
  pub version : tick.version.tick ≡ n
  pub windows : AreWindows names tick.version.policy m.sectors tick.windows
  pub fates : tick.fates ≡ fates_on tick.version.policy (map_acted m tick)

-- these are ticks from number n on, each on the map that the one before it leaves
abbrev pub AreTicks : List (List ℕ) → MapData → ℕ → List TickData → Type 0
AreTicks names m n [] = ⊤
AreTicks names m n (tick ∷ ticks) =
    IsTickOn names m n tick × AreTicks names (map_ticked m tick) (n + 1) ticks

-- the version of that number, by the first so many of these edits
abbrev pub version_by : Regions → List Asked → ℕ → ℕ → Version
version_by first edits count n =
    record { tick = n; edits = count; policy = after first (take count edits) }

-- each of these ticks is judged by the policy after the first so many of these edits: at least as
-- many as were counted before it, and at most those that a later version counts
abbrev pub AreGrown : Regions → List Asked → ℕ → List TickData → ℕ → Type 0
AreGrown first edits low [] high = low ≤ high
AreGrown first edits low (tick ∷ ticks) high =
    (low ≤ tick.version.edits)
    × (tick.version ≡ version_by first edits tick.version.edits tick.number)
    × AreGrown first edits tick.version.edits ticks high

-- the first of these ticks, where there is one, is judged by this policy, and no edit counts in it
abbrev pub BeginsBy : Regions → List TickData → Type 0
BeginsBy policy [] = ⊤
BeginsBy policy (tick ∷ ticks) = tick.version ≡ first_version policy

-- what the one-threaded rules give: ticks from the first on, in an unbroken row from the opening,
-- whose policy judges the first of them
pub record IsRun (c : ChronicleData) : Type 0 where
  pub ticks : AreTicks c.opening.names c.opening.terrain 1 c.ticks
  pub first : BeginsBy c.opening.policy c.ticks
