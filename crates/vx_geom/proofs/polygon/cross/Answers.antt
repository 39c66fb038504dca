use Rattle.std.proofs.Common.{◌≡◌, ℤ, pos, neg_ℤ, ◌-ℤ◌, ◌*ℤ◌, ◌≤ℤ◌, ◌^◌, rules, arith, ap, ◌∙◌, SFits, w32}
use Rattle.std.proofs.lemmas.Int.{ints}
use Rattle.std.specs.Int.{w128}
use mir.Val.{to_z, of_z}
use Rattle.vx_geom.specs.Polygon.{cross}
use Rattle.vx_geom.proofs.Gaps.{gap_fits, product_fits, gap_is}
use Rattle.vx_geom.proofs.polygon.cross.Goals as goal

difference_is : (r x y : ℤ) → neg_ℤ (pos (2 ^ 64)) ≤ℤ x → x ≤ℤ pos (2 ^ 64) → neg_ℤ (pos (2 ^ 64)) ≤ℤ y → y ≤ℤ pos (2 ^ 64)
    → r ≡ to_z w128 (of_z w128 x) -ℤ to_z w128 (of_z w128 y) → to_z w128 (of_z w128 r) ≡ x -ℤ y
difference_is r x y x_low x_high y_low y_high is = omega (arith, ints)

same_product : (r x y u v : ℤ) → r ≡ x *ℤ y → x ≡ u → y ≡ v → r ≡ u *ℤ v
same_product r x y u v is in_x in_y = is ∙ ap (λ n. n *ℤ y) in_x ∙ ap (λ n. u *ℤ n) in_y

pub product-first-requires : goal.product-first-requires
product-first-requires c =
    let first = c.gap.ensures in
    let second = c.gap-2.ensures in
    let first_fits = gap_fits c.gap.result first.low first.high in
    let second_fits = gap_fits c.gap-2.result second.low second.high in
    record { a_low = rw first_fits first.low; a_high = rw first_fits first.high; b_low = rw second_fits second.low; b_high = rw second_fits second.high }

pub product-second-requires : goal.product-second-requires
product-second-requires c =
    let first = c.gap-3.ensures in
    let second = c.gap-4.ensures in
    let first_fits = gap_fits c.gap-3.result first.low first.high in
    let second_fits = gap_fits c.gap-4.result second.low second.high in
    record { a_low = rw first_fits first.low; a_high = rw first_fits first.high; b_low = rw second_fits second.low; b_high = rw second_fits second.high }

pub difference-requires : goal.difference-requires
difference-requires c =
    let first = c.product-first.ensures in
    let second = c.product-second.ensures in
    let first_fits = product_fits c.product-first.result first.low first.high in
    let second_fits = product_fits c.product-second.result second.low second.high in
    record { a_low = rw first_fits first.low; a_high = rw first_fits first.high; b_low = rw second_fits second.low; b_high = rw second_fits second.high }

pub returns : goal.returns
unfolding cross
returns c =
    let a = c.args.a.now in
    let b = c.args.b.now in
    let p = c.args.p.now in
    let a_x : SFits w32 a.0 = search rules in
    let a_z : SFits w32 a.1 = search rules in
    let b_x : SFits w32 b.0 = search rules in
    let b_z : SFits w32 b.1 = search rules in
    let p_x : SFits w32 p.x = search rules in
    let p_z : SFits w32 p.z = search rules in
    let gap_x = gap_fits c.gap.result c.gap.ensures.low c.gap.ensures.high ∙ gap_is c.gap.result b.0 a.0 b_x a_x c.gap.ensures.value in
    let way_z = gap_fits c.gap-2.result c.gap-2.ensures.low c.gap-2.ensures.high ∙ gap_is c.gap-2.result p.z a.1 p_z a_z c.gap-2.ensures.value in
    let gap_z = gap_fits c.gap-3.result c.gap-3.ensures.low c.gap-3.ensures.high ∙ gap_is c.gap-3.result b.1 a.1 b_z a_z c.gap-3.ensures.value in
    let way_x = gap_fits c.gap-4.result c.gap-4.ensures.low c.gap-4.ensures.high ∙ gap_is c.gap-4.result p.x a.0 p_x a_x c.gap-4.ensures.value in
    let first = c.product-first.ensures in
    let second = c.product-second.ensures in
    let first_is = same_product c.product-first.result _ _ _ _ first.value gap_x way_z in
    let second_is = same_product c.product-second.result _ _ _ _ second.value gap_z way_x in
    difference_is c.difference.result c.product-first.result c.product-second.result first.low first.high second.low second.high c.difference.ensures
    ∙ ap (λ n. n -ℤ c.product-second.result) first_is
    ∙ ap (λ n. (b.0 -ℤ a.0) *ℤ (p.z -ℤ a.1) -ℤ n) second_is
