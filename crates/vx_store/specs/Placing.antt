-- When a byte can be put down at an index of a sector.
use Rattle.std.specs.Prelude.{◌≡◌, ℕ, ◌<◌, true, false, List, length, slice_index_or, None, IsSome}
use Rattle.std.specs.List.{All}
use Rattle.vx_store.specs.Chests.{ChestData, slots_of_chest}
use Rattle.vx_store.specs.Codes.{code_count, cell_of, is_chest}

-- the sector has the index, all bytes are those of cells, and so is this one; and at the index are
-- slots exactly where its byte is a chest's
pub record CanPut (store : List ℕ) (chests : ChestData) (index code : ℕ) : Type 0 where
  pub within : index < length store
  pub codes : All (λ each. each < code_count) store
  pub coded : code < code_count
  pub none : is_chest (cell_of (slice_index_or store index 0)) ≡ false
      → slots_of_chest chests index ≡ None
  pub some : is_chest (cell_of (slice_index_or store index 0)) ≡ true
      → IsSome (slots_of_chest chests index)
