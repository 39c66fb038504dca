use Rattle.std.specs.Prelude.{◌≡◌, ℕ, ℤ, pos, ◌+◌, ◌*◌, ◌/◌, ◌%◌, ◌≤◌, Bool, ◌&&◌, if◌then◌else◌, int_le, int_lt, unsigned_abs, Option, Some, None}
use Rattle.vx_geom.specs.declared.bounds.TheConstants.{MAX_SECTORS_EACH_WAY, MAX_CHUNKS_EACH_WAY, LOW_HEIGHT, HIGH_HEIGHT}
use Rattle.vx_geom.specs.declared.pos.Pos.{Pos}

-- how many sectors a world has from west to east and from north to south, how many chunks a side of
-- a sector has, and how many cells the world is high
pub record Sizes : Type 0 where
  pub sx : ℕ
  pub sz : ℕ
  pub s : ℕ
  pub h : ℕ

-- a world has 1 to 16 sectors each way, of 1 or 2 chunks each way, and is 64 or 128 cells high: of
-- one storey or of two
pub record AreSizes (v : Sizes) : Type 0 where
  pub sx_least : 1 ≤ v.sx
  pub sx_most : v.sx ≤ MAX_SECTORS_EACH_WAY
  pub sz_least : 1 ≤ v.sz
  pub sz_most : v.sz ≤ MAX_SECTORS_EACH_WAY
  pub s_least : 1 ≤ v.s
  pub s_most : v.s ≤ MAX_CHUNKS_EACH_WAY
  pub h_least : LOW_HEIGHT ≤ v.h
  pub h_most : v.h ≤ HIGH_HEIGHT
  pub h_whole : v.h % LOW_HEIGHT ≡ 0

-- how many columns a side of a sector has
abbrev pub span : Sizes → ℕ
span v = 16 * v.s

-- how many sectors there are
abbrev pub sector_count : Sizes → ℕ
sector_count v = v.sx * v.sz

-- 0 ≤ c < n
abbrev pub is_below : ℤ → ℕ → Bool
is_below c n = int_le (pos 0) c && int_lt c (pos n)

-- the world has a cell there
unfoldable pub is_inside : Sizes → Pos → Bool
is_inside v p =
    is_below p.x (v.sx * span v) && (is_below p.y v.h && is_below p.z (v.sz * span v))

-- sectors are numbered row by row, each row from west to east, the rows from north to south
unfoldable pub sector_number : Sizes → Pos → ℕ
sector_number v p = unsigned_abs p.x / span v + v.sx * (unsigned_abs p.z / span v)

-- the sector that holds a position
unfoldable pub sector_of : Sizes → Pos → Option ℕ
sector_of v p = if is_inside v p then Some (sector_number v p) else None

-- how many cells a sector has
abbrev pub sector_cells : Sizes → ℕ
sector_cells v = span v * span v * v.h

-- the index of a position among the cells of its sector: row by row from the north west, layer by
-- layer from the bottom
unfoldable pub index_in_sector : Sizes → Pos → ℕ
index_in_sector v p =
    unsigned_abs p.x % span v
    + span v * (unsigned_abs p.z % span v + span v * unsigned_abs p.y)
