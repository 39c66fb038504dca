-- How a sector is stored: a byte for each cell, the slots of the chests by their indices, and marks
-- where components stand.
use Rattle.std.specs.Prelude.{◌≡◌, ℕ, ◌+◌, ◌<◌, true, false, List, [], ◌∷◌, length, slice_index_or, All, Option, Some, None, unwrap_or}
use Rattle.vx_store.specs.declared.stack.TheConstants.{SLOTS}
use Rattle.vx_geom.specs.Sizes.{Sizes, sector_count, sector_cells}
use Rattle.vx_store.specs.Chests.{Slots, ChestData, slots_of_chest}
use Rattle.vx_store.specs.Codes.{code_count, cell_of, is_chest}
use Rattle.vx_store.specs.MachineMarks.{MarkWords, AreMachineMarks}
use Rattle.vx_cells.specs.SectorCells.{Block, SectorCells, IsSlot}

-- the block of a byte, with the slots that stand at its index
abbrev pub block_of : ℕ → ChestData → ℕ → Block
block_of code chests index = record {
  cell = cell_of code;
  slots = unwrap_or (slots_of_chest chests index) [];
}

-- the blocks of the bytes, from an index on
abbrev pub blocks_from : ℕ → List ℕ → ChestData → List Block
blocks_from index [] chests = []
blocks_from index (code ∷ codes) chests =
    block_of code chests index ∷ blocks_from (index + 1) codes chests

-- the sector that is stored
abbrev pub stored : Sizes → ℕ → List ℕ → ChestData → SectorCells
stored bounds sector codes chests = record {
  bounds = bounds;
  sector = sector;
  blocks = blocks_from 0 codes chests;
}

-- a chest's slots stand at its index, and none at another cell's
abbrev pub IsBeside : ℕ → Option Slots → Type 0
IsBeside code None = is_chest (cell_of code) ≡ false
IsBeside code (Some slots) =
    (is_chest (cell_of code) ≡ true) × (length slots ≡ SLOTS) × All IsSlot slots

-- each index has its byte, each chest its slots, and past the last index there are none
pub record IsStored (bounds : Sizes) (store : List ℕ) (slots : ChestData) : Type 0 where
  pub whole : length store ≡ sector_cells bounds
  pub codes : All (λ code. code < code_count) store
  pub chests : (index : ℕ) → IsBeside (slice_index_or store index 0) (slots_of_chest slots index)

-- a sector of a world is stored, with marks where components stand and where devices do
pub record IsKept (bounds : Sizes) (sector : ℕ) (store : List ℕ) (slots : ChestData)
    (kept : MarkWords) : Type 0 where
  pub sector_low : sector < sector_count bounds
  pub stored : IsStored bounds store slots
  pub marks : AreMachineMarks store kept
