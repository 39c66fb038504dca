-- The positions of a sector, in order.
use Rattle.std.specs.Prelude.{◌≡◌, ℕ, zero, suc, pos, ◌+◌, ◌-◌, ◌*◌, ◌/◌, ◌%◌, ◌<◌, min, true, List, [], ◌∷◌, Some}
use Rattle.vx_geom.specs.declared.pos.Pos.{Pos}
use Rattle.vx_geom.specs.Order.{comes_before}
use Rattle.vx_geom.specs.Sizes.{Sizes, AreSizes, span, sector_count, sector_cells, sector_of, index_in_sector}

-- the first column of a sector from the west, and its first from the north
abbrev pub west : Sizes → ℕ → ℕ
west v k = span v * (k % v.sx)

abbrev pub north : Sizes → ℕ → ℕ
north v k = span v * (k / v.sx)

-- the numbers of the sectors at most two columns and two rows of sectors off one lie from this one
-- up to below that one
abbrev pub first_near : Sizes → ℕ → ℕ
first_near v k = k - 2 * (v.sx + 1)

abbrev pub end_near : Sizes → ℕ → ℕ
end_near v k = min (k + 2 * (v.sx + 1) + 1) (sector_count v)

-- the position of an index among the cells of a sector
unfoldable pub position_in_sector : Sizes → ℕ → ℕ → Pos
position_in_sector v k index = record {
  y = pos (index / span v / span v);
  z = pos (north v k + index / span v % span v);
  x = pos (west v k + index % span v);
}

-- so many positions of a sector in order, from an index on
abbrev pub positions_from : Sizes → ℕ → ℕ → ℕ → List Pos
positions_from v k index zero = []
positions_from v k index (suc n) = position_in_sector v k index ∷ positions_from v k (suc index) n

-- all positions of a sector, in order
unfoldable pub positions : Sizes → ℕ → List Pos
positions v k = positions_from v k 0 (sector_cells v)

-- each index of a sector has a position there, each position there its index, and they come in one
-- order
pub record PositionsAreIndexed (v : Sizes) (k : ℕ) : Type 0 where
  pub held : (index : ℕ) → index < sector_cells v
      → sector_of v (position_in_sector v k index) ≡ Some k
  pub indexed : (index : ℕ) → index < sector_cells v
      → index_in_sector v (position_in_sector v k index) ≡ index
  pub found : (p : Pos) → sector_of v p ≡ Some k
      → position_in_sector v k (index_in_sector v p) ≡ p
  pub ordered : (a b : ℕ) → a < b → b < sector_cells v
      → comes_before (position_in_sector v k a) (position_in_sector v k b) ≡ true

-- this holds of each sector of a world
abbrev pub IndicesArePlaces : Type 0
IndicesArePlaces = (v : Sizes) (k : ℕ)
    → AreSizes v → k < sector_count v → PositionsAreIndexed v k
