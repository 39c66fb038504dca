use Rattle.std.proofs.Common.{ℤ, pos, neg_ℤ, ◌*ℤ◌, ◌≤ℤ◌, ◌≤◌, ◌^◌, arith}
use Rattle.std.specs.Prelude.{unsigned_abs}
use Rattle.std.specs.Int.{w128}
use Rattle.std.proofs.lemmas.Int.{ints, to_z-of_z, unsigned_abs-mul}
use Rattle.std.proofs.lemmas.Nat.{mul-le}
use Rattle.vx_geom.proofs.Gaps.{widened, abs_most, times_fit}
use Rattle.vx_geom.proofs.polygon.product.Goals as goal

product_most : (a b : ℤ) → unsigned_abs a ≤ 2 ^ 32 → unsigned_abs b ≤ 2 ^ 32 → unsigned_abs (a *ℤ b) ≤ 2 ^ 64
product_most a b a_most b_most = rw (unsigned_abs-mul a b) (mul-le (unsigned_abs a) (unsigned_abs b) (2 ^ 32) (2 ^ 32) a_most b_most)

product_low : (z : ℤ) → unsigned_abs z ≤ 2 ^ 64 → neg_ℤ (pos (2 ^ 64)) ≤ℤ z
product_low z most = omega (arith, ints)

product_high : (z : ℤ) → unsigned_abs z ≤ 2 ^ 64 → z ≤ℤ pos (2 ^ 64)
product_high z most = omega (arith, ints)

pub overflow_mul-result : goal.overflow_mul-result
overflow_mul-result c =
    let a_most = abs_most c.args.a c.requires.a_low c.requires.a_high in
    let b_most = abs_most c.args.b c.requires.b_low c.requires.b_high in
    rw (widened c.args.a c.from.result c.ranges.a c.from.ensures, widened c.args.b c.from-2.result c.ranges.b c.from-2.ensures)
    (times_fit c.args.a c.args.b a_most b_most)

pub returns : goal.returns
returns c =
    let a = c.args.a in
    let b = c.args.b in
    let a_most = abs_most a c.requires.a_low c.requires.a_high in
    let b_most = abs_most b c.requires.b_low c.requires.b_high in
    let most = product_most a b a_most b_most in
    let whole = to_z-of_z w128 (a *ℤ b) (times_fit a b a_most b_most) in
    rw (widened a c.from.result c.ranges.a c.from.ensures, widened b c.from-2.result c.ranges.b c.from-2.ensures)
    (record { value = whole; low = rw whole (product_low (a *ℤ b) most); high = rw whole (product_high (a *ℤ b) most) })
