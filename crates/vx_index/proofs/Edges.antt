-- Where the sectors of a world begin.
use Rattle.std.proofs.Common.{ℕ, ◌+◌, ◌*◌, ◌/◌, ◌%◌, ◌<◌, ◌≤◌, arith}
use Rattle.std.proofs.lemmas.Nat.{mod_below, mul-le}
use Rattle.vx_geom.proofs.Divisions.{part_below}
use Rattle.vx_geom.specs.Places.{west, north}
use Rattle.vx_geom.specs.Sizes.{Sizes, AreSizes, sector_count}
use Rattle.vx_geom.specs.declared.bounds.TheConstants.{MAX_SECTORS_EACH_WAY, MAX_CHUNKS_EACH_WAY, MAX_COLUMNS_EACH_WAY}

-- with so few chunks and sectors each way a sector begins no further off than the widest world ends
fits : (s n : ℕ) → s ≤ MAX_CHUNKS_EACH_WAY → n < MAX_SECTORS_EACH_WAY → 16 * s * n ≤ MAX_COLUMNS_EACH_WAY
fits s n narrow low = omega (arith, mul-le s (n + 1) MAX_CHUNKS_EACH_WAY MAX_SECTORS_EACH_WAY narrow (omega (arith, low)))

-- so it is from the west
pub west_fits : (v : Sizes) (k : ℕ) → AreSizes v → west v k ≤ MAX_COLUMNS_EACH_WAY
west_fits v k sizes = fits v.s (k % v.sx) sizes.s_most (omega (arith, mod_below k v.sx (omega arith)))

-- and from the north
pub north_fits : (v : Sizes) (k : ℕ) → AreSizes v → k < sector_count v → north v k ≤ MAX_COLUMNS_EACH_WAY
north_fits v k sizes there = fits v.s (k / v.sx) sizes.s_most (omega (arith, part_below v.sx v.sz k (omega arith) (omega arith)))
