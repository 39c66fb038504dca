use Rattle.std.proofs.Common.{◌≡◌, ℤ, pos, neg_ℤ, ◌*ℤ◌, ◌≤ℤ◌, ◌<ℤ◌, ◌<◌, ◌^◌, arith, ◌∙◌, FitsSigned, w64, ap}
use Rattle.std.specs.Prelude.{int_div, unsigned_abs}
use Rattle.std.specs.Int.{w128}
use Rattle.std.proofs.lemmas.Int.{ints, to_z-of_z, fits_signed_from_abs, quot_fits}
use mir.Val.{to_z, of_z}
use Rattle.vx_geom.specs.Row.{LiesWithin}
use Rattle.vx_geom.proofs.Gaps.{abs_most, times_fit}
use Rattle.vx_geom.proofs.Slopes.{lies_within}
use Rattle.vx_geom.proofs.polygon.share.Goals as goal

-- the quotient of two gaps' product by a third, as it is computed
record Computed (gap way whole product divisor : ℤ) : Type 0 where
  divisor_above : 0 < of_z w128 divisor
  fits : FitsSigned w128 (int_div (to_z w128 (of_z w128 product)) (to_z w128 (of_z w128 divisor)))
  fits_again : FitsSigned w64 (to_z w128 (of_z w128 (int_div (to_z w128 (of_z w128 product)) (to_z w128 (of_z w128 divisor)))))
  value : to_z w64 (of_z w64 (to_z w128 (of_z w128 (int_div (to_z w128 (of_z w128 product)) (to_z w128 (of_z w128 divisor))))))
      ≡ int_div (gap *ℤ way) whole
  within : LiesWithin gap (int_div (gap *ℤ way) whole)

narrow : (gap n : ℤ) → neg_ℤ (pos (2 ^ 32)) ≤ℤ gap → gap ≤ℤ pos (2 ^ 32) → LiesWithin gap n → FitsSigned w64 n
narrow gap n low high within =
    let from = within.low (neg_ℤ (pos (2 ^ 32))) (omega (arith, ints)) low in
    let to = within.high (pos (2 ^ 32)) (omega (arith, ints)) high in
    let few : unsigned_abs n < 2 ^ 63 = omega (arith, ints, from, to) in
    fits_signed_from_abs w64 n few

computed : (gap way whole product divisor : ℤ) → neg_ℤ (pos (2 ^ 32)) ≤ℤ gap → gap ≤ℤ pos (2 ^ 32)
    → pos 0 ≤ℤ way → way ≤ℤ whole → pos 0 <ℤ whole → whole ≤ℤ pos (2 ^ 32)
    → product ≡ gap *ℤ way → divisor ≡ whole → Computed gap way whole product divisor
computed gap way whole product divisor gap_low gap_high from to above most in_product in_divisor =
    let n_fits = times_fit gap way (abs_most gap gap_low gap_high) (abs_most way (omega (arith, ints, from)) (omega (arith, ints, to, most))) in
    let d_few : unsigned_abs whole < 2 ^ 127 = omega (arith, ints, above, most) in
    let d_fits = fits_signed_from_abs w128 whole d_few in
    let n_is = ap (λ n. to_z w128 (of_z w128 n)) in_product ∙ to_z-of_z w128 (gap *ℤ way) n_fits in
    let d_is = ap (λ n. to_z w128 (of_z w128 n)) in_divisor ∙ to_z-of_z w128 whole d_fits in
    let q_fits = quot_fits w128 (gap *ℤ way) whole n_fits above in
    let q_is = to_z-of_z w128 (int_div (gap *ℤ way) whole) q_fits in
    let within = lies_within gap way whole from to above in
    let q_narrow = narrow gap (int_div (gap *ℤ way) whole) gap_low gap_high within in
    record {
      divisor_above = omega (arith, ints, d_is, above);
      fits = rw (n_is, d_is) q_fits;
      fits_again = rw (n_is, d_is, q_is) q_narrow;
      value = rw (n_is, d_is, q_is) (to_z-of_z w64 (int_div (gap *ℤ way) whole) q_narrow);
      within = within;
    }

product_is : (r gap way : ℤ) → FitsSigned w64 gap → FitsSigned w64 way → r ≡ to_z w64 (of_z w64 gap) *ℤ to_z w64 (of_z w64 way) → r ≡ gap *ℤ way
product_is r gap way gap_fits way_fits is =
    is ∙ ap (λ n. n *ℤ to_z w64 (of_z w64 way)) (to_z-of_z w64 gap gap_fits) ∙ ap (λ n. gap *ℤ n) (to_z-of_z w64 way way_fits)

pub nonzero_div-result : goal.nonzero_div-result
nonzero_div-result c =
    let it = computed c.args.gap c.args.way c.args.whole c.product.result c.from.result c.requires.gap_low c.requires.gap_high
    c.requires.way_low c.requires.way_high c.requires.whole_low c.requires.whole_high
    (product_is _ _ _ c.ranges.gap c.ranges.way c.product.ensures.value) (c.from.ensures ∙ to_z-of_z w64 c.args.whole c.ranges.whole) in
    (it.divisor_above, it.fits)

pub overflow_cast-result : goal.overflow_cast-result
overflow_cast-result c =
    let it = computed c.args.gap c.args.way c.args.whole c.product.result c.from.result c.requires.gap_low c.requires.gap_high
    c.requires.way_low c.requires.way_high c.requires.whole_low c.requires.whole_high
    (product_is _ _ _ c.ranges.gap c.ranges.way c.product.ensures.value) (c.from.ensures ∙ to_z-of_z w64 c.args.whole c.ranges.whole) in
    it.fits_again

pub returns : goal.returns
returns c =
    let it = computed c.args.gap c.args.way c.args.whole c.product.result c.from.result c.requires.gap_low c.requires.gap_high
    c.requires.way_low c.requires.way_high c.requires.whole_low c.requires.whole_high
    (product_is _ _ _ c.ranges.gap c.ranges.way c.product.ensures.value) (c.from.ensures ∙ to_z-of_z w64 c.args.whole c.ranges.whole) in
    record { value = it.value; within = rw it.value it.within }
