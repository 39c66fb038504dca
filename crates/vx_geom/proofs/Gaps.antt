-- The gaps between coordinates, and their products, as they are computed.
use Rattle.std.proofs.Common.{◌≡◌, ℤ, pos, neg_ℤ, ◌-ℤ◌, ◌*ℤ◌, ◌≤ℤ◌, ◌≤◌, ◌^◌, arith, lit<, SFits, w32, w64}
use Rattle.std.specs.Prelude.{unsigned_abs}
use Rattle.std.specs.Int.{w128}
use Rattle.std.proofs.lemmas.Int.{ints, fits_signed_mul}
use mir.Val.{to_z, of_z}

-- a gap and a product fit what they are computed in
pub gap_fits : (x : ℤ) → neg_ℤ (pos (2 ^ 32)) ≤ℤ x → x ≤ℤ pos (2 ^ 32) → to_z w64 (of_z w64 x) ≡ x
gap_fits x low high = omega (arith, ints)

pub product_fits : (x : ℤ) → neg_ℤ (pos (2 ^ 64)) ≤ℤ x → x ≤ℤ pos (2 ^ 64) → to_z w128 (of_z w128 x) ≡ x
product_fits x low high = omega (arith, ints)

-- a gap of two coordinates is that of the numbers they are
pub gap_is : (r to from : ℤ) → SFits w32 to → SFits w32 from → r ≡ to_z w32 (of_z w32 to) -ℤ to_z w32 (of_z w32 from) → r ≡ to -ℤ from
gap_is r to from to_fits from_fits is = omega (arith, ints)

-- what was widened from 64 bits to 128 is the number it was
pub widened : (a r : ℤ) → SFits w64 a → r ≡ to_z w64 (of_z w64 a) → to_z w128 (of_z w128 r) ≡ a
widened a r fits is = omega (arith, ints)

pub abs_most : (a : ℤ) → neg_ℤ (pos (2 ^ 32)) ≤ℤ a → a ≤ℤ pos (2 ^ 32) → unsigned_abs a ≤ 2 ^ 32
abs_most a low high = omega (arith, ints)

-- a product of two gaps fits 128 bits
pub times_fit : (a b : ℤ) → unsigned_abs a ≤ 2 ^ 32 → unsigned_abs b ≤ 2 ^ 32 → SFits w128 (a *ℤ b)
times_fit a b a_most b_most = fits_signed_mul w128 a b (2 ^ 32) (2 ^ 32) a_most b_most (lit< tt)
