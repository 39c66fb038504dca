-- Levels of dust, as a table has them, near a sector.
use Rattle.std.specs.Prelude.{◌≡◌, ℕ, ◌+◌, ◌*◌, ◌/◌, ◌%◌, ◌<◌, ◌≤◌, Bool, true, ◌&&◌, if◌then◌else◌, List, length, slice_index_or, Option, Some, None, pos, ◌-ℤ◌, unsigned_abs, int_le, int_lt}
use Rattle.std.specs.List.{list_any}
use Rattle.std.specs.Ordering.{int_eq}
use Rattle.vx_geom.specs.declared.bounds.TheConstants.{MAX_COLUMNS_EACH_WAY, HIGH_HEIGHT}
use Rattle.vx_geom.specs.declared.pos.Pos.{Pos}
use Rattle.vx_geom.specs.Places.{west, north}
use Rattle.vx_geom.specs.Sizes.{Sizes, span, is_below}
use Rattle.vx_block.specs.declared.cell.Cell.{Cell}
use Rattle.vx_block.specs.declared.cell.Cell.TheVariants.{Dust}
use Rattle.vx_cells.specs.Maps.{MapData, cell_on, far}
use Rattle.vx_power.specs.declared.columns.Columns.{Columns}
use Rattle.vx_power.specs.declared.sheet.TheConstants.{SHEET_SIDE, SHEETS_EACH_WAY}
use Rattle.vx_power.specs.Laws.{dust_level}

-- they are one position
abbrev pub same_place : Pos → Pos → Bool
same_place a b = int_eq a.y b.y && (int_eq a.z b.z && int_eq a.x b.x)

-- the position is in the list
abbrev pub has : List Pos → Pos → Bool
has ps p = list_any (same_place p) ps

-- the widest world has a cell there
abbrev pub is_place : Pos → Bool
is_place p =
    is_below p.x MAX_COLUMNS_EACH_WAY
    && (is_below p.y HIGH_HEIGHT && is_below p.z MAX_COLUMNS_EACH_WAY)

-- each layer of the widest world is divided into sheets, and so many columns has each
abbrev pub columns : ℕ
columns = SHEET_SIDE * SHEET_SIDE

-- the number of the sheet that holds a position: row by row from the north west, layer by layer
-- from the bottom
abbrev pub sheet_of : Pos → ℕ
sheet_of p =
    unsigned_abs p.x / SHEET_SIDE
    + SHEETS_EACH_WAY * (unsigned_abs p.z / SHEET_SIDE + SHEETS_EACH_WAY * unsigned_abs p.y)

-- the number of the column of a position in its sheet, row by row from the north west
abbrev pub column : Pos → ℕ
column p = unsigned_abs p.x % SHEET_SIDE + SHEET_SIDE * (unsigned_abs p.z % SHEET_SIDE)

-- sheets by their numbers, each with a level for each of its columns, where any was put
abbrev pub LevelTable : Type 0
LevelTable = List (Option (List ℕ))

-- the level that a sheet has for a position in it; 0 where it has none
abbrev pub level_of : Option (List ℕ) → Pos → ℕ
level_of None p = 0
level_of (Some sheet) p = if is_place p then slice_index_or sheet (column p) 0 else 0

-- the level that a table has for a position; 0 where it has none
abbrev pub level_in : LevelTable → Pos → ℕ
level_in table p = level_of (slice_index_or table (sheet_of p) None) p

-- a sheet has a level for each column, and none is over 15
pub record IsSheet (sheet : List ℕ) : Type 0 where
  pub whole : length sheet ≡ columns
  pub most : (i : ℕ) → slice_index_or sheet i 0 ≤ 15

-- a table has more sheets, up to that one, and the same levels
pub record ReachesSheet (number : ℕ) (old new : LevelTable) : Type 0 where
  pub there : number < length new
  pub same : (p : Pos) → level_in new p ≡ level_in old p

-- the position is in one of these columns
abbrev pub is_in : Columns → Pos → Bool
is_in c p = (int_le c.west p.x && int_lt p.x c.east) && (int_le c.north p.z && int_lt p.z c.south)

-- the columns of a sector, and those up to d columns off it
abbrev pub columns_around : Sizes → ℕ → ℕ → Columns
columns_around v k d = record {
  west = pos (west v k) -ℤ pos d;
  east = pos (west v k + span v + d);
  north = pos (north v k) -ℤ pos d;
  south = pos (north v k + span v + d);
}

-- all the columns that a world may have
abbrev pub everywhere : Columns
everywhere = record { west = pos 0; east = pos far; north = pos 0; south = pos far }

-- the level that dust stores; 0 of another cell
abbrev pub stored_level : Cell → ℕ
stored_level (Dust level) = level
stored_level _ = 0

-- how many columns off a sector levels are told: a next part reads no level further off
abbrev pub told_columns : ℕ
told_columns = 2

-- the table has the level of each dust of a sector and of those near it
abbrev pub AreLevels : MapData → ℕ → (Pos → ℕ) → Type 0
AreLevels m k level = (p : Pos) → is_in (columns_around m.sizes k told_columns) p ≡ true
    → level p ≡ dust_level (cell_on m) p

-- the table has the level of each dust of a map
abbrev pub AreAllLevels : MapData → (Pos → ℕ) → Type 0
AreAllLevels m level = (p : Pos) → level p ≡ dust_level (cell_on m) p
