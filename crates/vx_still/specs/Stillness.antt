-- What levels as dust stores them tell of a map: where they agree, and what stays by them.
use Rattle.std.specs.Prelude.{◌≡◌, ℕ, true, false, List}
use Rattle.vx_geom.specs.declared.pos.Pos.{Pos}
use Rattle.vx_block.specs.declared.cell.Cell.{Cell}
use Rattle.vx_block.specs.Components.{is_dust}
use Rattle.vx_cells.specs.Maps.{MapData, cell_on}
use Rattle.vx_levels.specs.Consistency.{IsConsistent, IsExactOn}
use Rattle.vx_power.specs.Laws.{dust_level}
use Rattle.vx_power.specs.Levels.{has, stored_level}
use Rattle.vx_power.specs.Local.{sees, shown, AreAlike}
use Rattle.vx_power.specs.Turning.{built, PowerHeeded}
use Rattle.vx_part.specs.Parts.{next_part}
use Rattle.vx_piston.specs.Moves.{is_restless}
use Rattle.vx_still.specs.Waking.{with_rebuilt, ReadsNone, Rests, SeesNone, WakingData}

-- the level that dust at each position stores
abbrev pub stored_on : MapData → Pos → ℕ
stored_on m p = stored_level (cell_on m p)

-- by the levels that dust stores, what stands at p is the same after a tick, and no piston that
-- would move
pub record Stays (m : MapData) (p : Pos) : Type 0 where
  pub part : next_part (cell_on m) (stored_on m) p ≡ cell_on m p
  pub piston : is_restless (cell_on m) (stored_on m) p ≡ false

-- dust has levels as it stores them that agree, and by these levels all stays, but for what sees or
-- reads what was rebuilt or turned, and what is looked at besides
pub record IsStill (m : MapData) (waking : WakingData) : Type 0 where
  pub levels : (p : Pos) → is_dust (cell_on m p) ≡ true → SeesNone m waking p
      → IsConsistent (cell_on m) (stored_on m) p
  pub parts : (p : Pos) → has waking.besides p ≡ false → ReadsNone m waking p → Stays m p

-- a tick of a map leaves no more to be looked at: where nothing was rebuilt each cell has become its
-- next part and is built as it was; where nothing was turned, either, it shows what it showed; what
-- is no dust is the same then, unless it is looked at besides; and so is each piston that would move
pub record LeavesStill (m next : MapData) (waking : WakingData) : Type 0 where
  pub builds : (p : Pos) → has waking.rebuilt p ≡ false
      → built (cell_on next p) ≡ built (cell_on m p)
  pub parts : (p : Pos) → has waking.rebuilt p ≡ false
      → cell_on next p ≡ next_part (cell_on m) (dust_level (cell_on m)) p
  pub shows : (p : Pos) → has waking.rebuilt p ≡ false → has waking.turned p ≡ false
      → shown (cell_on next p) ≡ shown (cell_on m p)
  pub others : (p : Pos) → has waking.rebuilt p ≡ false → has waking.turned p ≡ false
      → has waking.besides p ≡ false → is_dust (cell_on m p) ≡ false
      → cell_on next p ≡ cell_on m p
  pub pistons : (p : Pos)
      → is_restless (cell_on m) (dust_level (cell_on m)) p ≡ true → has waking.besides p ≡ true

-- so it is where cells are written, with these places among those that were rebuilt
abbrev pub WritesKeepStill : Type 0
WritesKeepStill = (m next : MapData) (waking : WakingData) (written : List Pos) → IsStill m waking
    → ((p : Pos) → has written p ≡ false → cell_on next p ≡ cell_on m p)
    → IsStill next (with_rebuilt waking written)

-- and after a tick, whatever was still before it
abbrev pub TicksLeaveStill : Type 0
TicksLeaveStill = (m next : MapData) (waking : WakingData) → LeavesStill m next waking
    → IsStill next waking

-- where a map is still, all rests that reads nothing that was rebuilt or turned, and sees no dust of
-- which the level is another than it stores, but for what is looked at besides
abbrev pub StillRests : Type 0
StillRests = (m : MapData) (waking : WakingData) (p : Pos) → IsStill m waking
    → has waking.besides p ≡ false → ReadsNone m waking p
    → AreAlike (sees p) (stored_on m) (dust_level (cell_on m)) → Rests m p

-- what is no dust heeds of levels only which dust has power
abbrev pub PartsReadPower : Type 0
PartsReadPower = (w : Pos → Cell) (a b : Pos → ℕ) (p : Pos) → is_dust (w p) ≡ false
    → PowerHeeded w a b p
    → (next_part w a p ≡ next_part w b p) × (is_restless w a p ≡ is_restless w b p)

-- so where a map is still, it rests but where it reads what was rebuilt or turned, or heeds dust that
-- gained or lost all power; and dust rests where it stores its level
abbrev pub OthersRest : Type 0
OthersRest = (m : MapData) (waking : WakingData) (p : Pos) → IsStill m waking
    → has waking.besides p ≡ false → ReadsNone m waking p → is_dust (cell_on m p) ≡ false
    → PowerHeeded (cell_on m) (stored_on m) (dust_level (cell_on m)) p
    → Rests m p

abbrev pub DustRests : Type 0
DustRests = (m : MapData) (p : Pos) → is_dust (cell_on m p) ≡ true
    → stored_on m p ≡ dust_level (cell_on m) p → Rests m p

-- a table has the level that dust stores, wherever nothing was rebuilt
abbrev pub Mirrors : MapData → List Pos → (Pos → ℕ) → Type 0
Mirrors m rebuilt level = (p : Pos) → is_dust (cell_on m p) ≡ true → has rebuilt p ≡ false
    → level p ≡ stored_on m p

-- so its levels agree where dust sees nothing that was rebuilt or turned; and a table of the levels of
-- a map is one of what dust stores after the tick
abbrev pub MirrorsAgree : Type 0
MirrorsAgree = (m : MapData) (waking : WakingData) (level : Pos → ℕ) (p : Pos) → IsStill m waking
    → Mirrors m waking.rebuilt level → is_dust (cell_on m p) ≡ true → SeesNone m waking p
    → IsConsistent (cell_on m) level p

abbrev pub TicksMirror : Type 0
TicksMirror = (m next : MapData) (waking : WakingData) (level : Pos → ℕ)
    → LeavesStill m next waking → IsExactOn (cell_on m) level → Mirrors next waking.rebuilt level
