-- The positions that the columns of a tile hold, row by row.
use Rattle.std.proofs.Common.{◌≡◌, ◌⊎◌, inl, inr, ℕ, pos, negsuc, ◌+◌, ◌<◌, ◌≤◌, true, refl, arith}
use Rattle.std.specs.Prelude.{ℤ, int_le, ◌-ℤ◌, ◌≤ℤ◌, unsigned_abs}
use Rattle.std.proofs.lemmas.Bool.{and_parts}
use Rattle.std.proofs.lemmas.Int.{ints, by_lt_z}
use Rattle.vx_geom.specs.declared.extent.Extent.{Extent}
use Rattle.vx_geom.specs.declared.pos.Pos.{Pos}
use Rattle.vx_geom.specs.Extent.{is_within}
use Rattle.vx_geom.specs.Outline.{is_amid}
use Rattle.vx_geom.proofs.Enclosing.{within_from}
use Rattle.vx_index.specs.Patches.{square, row_of_square, band_of_square}

-- columns with the same ends are the same
pub same_extent : (e f : Extent) → e.west ≡ f.west → e.east ≡ f.east → e.north ≡ f.north → e.south ≡ f.south → e ≡ f
same_extent e f in_west in_east in_north in_south =
    λ i. record { west = in_west i; east = in_east i; north = in_north i; south = in_south i }

-- the column of the position lies between the ends
pub record LiesAmid (e : Extent) (p : Pos) : Type 0 where
  pub west : e.west ≤ℤ p.x
  pub east : p.x ≤ℤ e.east
  pub north : e.north ≤ℤ p.z
  pub south : p.z ≤ℤ e.south

pub lies_amid : (e : Extent) (p : Pos) → is_within e p ≡ true → LiesAmid e p
unfolding is_within
lies_amid e p within =
    let sides = and_parts (is_amid e.west e.east p.x) (is_amid e.north e.south p.z) within in
    let x = and_parts (int_le e.west p.x) (int_le p.x e.east) sides.0 in
    let z = and_parts (int_le e.north p.z) (int_le p.z e.south) sides.1 in
    record {
      west = omega (arith, ints, x.0);
      east = omega (arith, ints, x.1);
      north = omega (arith, ints, z.0);
      south = omega (arith, ints, z.1);
    }

-- a number from a natural one on is natural
natural : (c : ℤ) (a : ℕ) → pos a ≤ℤ c → c ≡ pos (unsigned_abs c)
natural (pos m) a low = refl
natural (negsuc m) a low = absurd (omega (arith, ints))

-- a position in a row of a tile, its column as natural numbers
pub record LiesInRow (west z : ℕ) (p : Pos) : Type 0 where
  pub x_is : p.x ≡ pos (unsigned_abs p.x)
  pub z_is : p.z ≡ pos z
  pub from : west ≤ unsigned_abs p.x
  pub below : unsigned_abs p.x < west + 32

pub lies_in_row : (west z : ℕ) (p : Pos) → is_within (row_of_square west z) p ≡ true → LiesInRow west z p
lies_in_row west z p within =
    let amid = lies_amid (row_of_square west z) p within in
    let x_is = natural p.x west amid.west in
    record {
      x_is = x_is;
      z_is = omega (arith, ints, amid.north, amid.south);
      from = omega (arith, ints, amid.west, x_is);
      below = omega (arith, ints, amid.east, x_is);
    }

-- the rows of a tile before the row z
abbrev pub rows_before : ℕ → ℕ → ℕ → Extent
rows_before west north z = record {
  west = pos west;
  east = pos (west + 31);
  north = pos north;
  south = pos z -ℤ pos 1;
}

-- before the first row there is none
pub no_rows : (west north : ℕ) (p : Pos) → is_within (rows_before west north north) p ≡ true → ⊥
no_rows west north p within =
    let amid = lies_amid (rows_before west north north) p within in
    omega (arith, ints, amid.north, amid.south)

-- a position before the next row is before this row or in it
pub row_or_before : (west north z : ℕ) (p : Pos) → is_within (rows_before west north (z + 1)) p ≡ true
    → (is_within (rows_before west north z) p ≡ true) ⊎ (is_within (row_of_square west z) p ≡ true)
row_or_before west north z p within =
    let amid = lies_amid (rows_before west north (z + 1)) p within in
    by_lt_z p.z (pos z)
    (λ before. inl (within_from (rows_before west north z) p amid.west amid.east amid.north (omega (arith, ints, before))))
    (λ past. inr (within_from (row_of_square west z) p amid.west amid.east past (omega (arith, ints, amid.south))))

-- and one before the next band is before this band or in it
pub band_or_before : (west north z : ℕ) (p : Pos) → is_within (rows_before west north (z + 8)) p ≡ true
    → (is_within (rows_before west north z) p ≡ true) ⊎ (is_within (band_of_square west z) p ≡ true)
band_or_before west north z p within =
    let amid = lies_amid (rows_before west north (z + 8)) p within in
    by_lt_z p.z (pos z)
    (λ before. inl (within_from (rows_before west north z) p amid.west amid.east amid.north (omega (arith, ints, before))))
    (λ past. inr (within_from (band_of_square west z) p amid.west amid.east past (omega (arith, ints, amid.south))))

-- eight rows are a band
pub all_of_band : (west z end : ℕ) → end ≡ z + 8 → rows_before west z end ≡ band_of_square west z
all_of_band west z end last = same_extent _ _ refl refl refl (omega (arith, ints, last))

-- 32 rows are all
pub all_rows : (west north z : ℕ) → z ≡ north + 32 → rows_before west north z ≡ square west north
all_rows west north z last = same_extent _ _ refl refl refl (omega (arith, ints, last))
