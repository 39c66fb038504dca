use Rattle.std.specs.Prelude.{◌≡◌, ℕ, ◌≤◌, Bool, false, nat_eq, List, [], ◌∷◌, length, replicate, slice_index_or, slice_set, if◌then◌else◌, Option, Some, None}
use Rattle.std.specs.List.{All}
use Rattle.std.specs.Option.{option_map_or}
use Rattle.vx_store.specs.declared.stack.TheConstants.{SLOTS, MAX_COUNT}
use Rattle.vx_block.specs.declared.cell.Cell.{Cell}
use Rattle.vx_block.specs.declared.cell.Cell.TheVariants.{Air}
use Rattle.vx_geom.specs.declared.pos.Pos.{Pos}
use Rattle.vx_geom.specs.Sizes.{Sizes, sector_of, sector_cells, index_in_sector}
use Rattle.vx_store.specs.Codes.{is_chest}
use Rattle.vx_store.specs.declared.stack.Stack.{Stack}

-- what stands at a place: a cell, and the slots of a chest
pub record Block : Type 0 where
  pub cell : Cell
  pub slots : List (Option Stack)

-- how many slots a cell has: a chest 27 of them, another none
abbrev pub slot_count : Cell → ℕ
slot_count cell = if is_chest cell then SLOTS else 0

-- a cell as it is put down: a chest begins empty
abbrev pub placed : Cell → Block
placed cell = record { cell = cell; slots = replicate (slot_count cell) None }

-- how many of one item a slot holds at most
abbrev pub most_count : ℕ
most_count = MAX_COUNT

-- a slot is empty, or holds 1 to 64 of an item
abbrev pub IsSlot : Option Stack → Type 0
IsSlot None = Unit {0}
IsSlot (Some stack) = (1 ≤ stack.count) × (stack.count ≤ most_count)

-- a chest has its 27 slots, and no other cell has any
pub record IsBlock (b : Block) : Type 0 where
  pub slots : length b.slots ≡ slot_count b.cell
  pub each : All IsSlot b.slots

-- one sector of a world: what stands at each of its places, in the order of their indices
pub record SectorCells : Type 0 where
  pub bounds : Sizes
  pub sector : ℕ
  pub blocks : List Block

-- something stands at each place, and each chest has its slots
pub record IsWhole (c : SectorCells) : Type 0 where
  pub whole : length c.blocks ≡ sector_cells c.bounds
  pub each : All IsBlock c.blocks

-- the position is of this sector
unfoldable pub holds : SectorCells → Pos → Bool
holds c p = option_map_or (nat_eq c.sector) (sector_of c.bounds p) false

-- nothing but air
abbrev pub only_air : Sizes → ℕ → SectorCells
only_air bounds sector = record {
  bounds = bounds;
  sector = sector;
  blocks = replicate (sector_cells bounds) (placed Air);
}

-- what stands at a position of the sector
unfoldable pub block_at : SectorCells → Pos → Block
block_at c p = slice_index_or c.blocks (index_in_sector c.bounds p) (placed Air)

-- its cell
abbrev pub cell_at : SectorCells → Pos → Cell
cell_at c p = (block_at c p).cell

-- its slots, where it is a chest
abbrev pub chest_at : SectorCells → Pos → Option (List (Option Stack))
chest_at c p = if is_chest (cell_at c p) then Some (block_at c p).slots else None

-- something else at one position, and all the others as they are
unfoldable pub with_block : SectorCells → Pos → Block → SectorCells
with_block c p block = record c { blocks = slice_set c.blocks (index_in_sector c.bounds p) block }

-- a cell put down at one position
abbrev pub with_cell : SectorCells → Pos → Cell → SectorCells
with_cell c p cell = with_block c p (placed cell)

-- these cells put down one after another
abbrev pub with_cells : SectorCells → List (Pos × Cell) → SectorCells
with_cells c [] = c
with_cells c (put ∷ puts) = with_cells (with_cell c put.0 put.1) puts

-- something else in one slot, and the cell and the other slots as they are
abbrev pub with_content : Block → ℕ → Option Stack → Block
with_content b slot content = record b { slots = slice_set b.slots slot content }

-- something else in one slot of the chest at a position
abbrev pub with_slot : SectorCells → Pos → ℕ → Option Stack → SectorCells
with_slot c p slot content = with_block c p (with_content (block_at c p) slot content)
