use Rattle.std.proofs.Common.{◌≡◌, ℤ, pos, negsuc, neg_ℤ, ◌+ℤ◌, ◌-ℤ◌, ◌*ℤ◌, ◌≤ℤ◌, ◌<ℤ◌, ◌^◌, rules, arith, ap, subst, ◌∙◌, SFits, w32, w64}
use Rattle.std.specs.Prelude.{int_div}
use Rattle.std.proofs.lemmas.Int.{ints, to_z-of_z}
use Rattle.vx_geom.specs.Row.{LiesWithin, shift}
use Rattle.vx_geom.proofs.Gaps.{gap_fits, gap_is}
use Rattle.vx_geom.proofs.polygon.shift.Goals as goal

same_share : (r g w d x y n : ℤ) → r ≡ int_div (g *ℤ w) d → g ≡ x → w ≡ y → d ≡ n → r ≡ int_div (x *ℤ y) n
same_share r g w d x y n is in_g in_w in_d =
    is ∙ ap (λ a. int_div (a *ℤ w) d) in_g ∙ ap (λ a. int_div (x *ℤ a) d) in_w ∙ ap (int_div (x *ℤ y)) in_d

fits : (n : ℤ) → neg_ℤ (pos (2 ^ 31)) ≤ℤ n → n <ℤ pos (2 ^ 31) → SFits w32 n
fits (pos n) low high = record { sfits = omega (arith, ints) }
fits (negsuc n) low high = record { sfits = omega (arith, ints) }

-- the column lies between the ends of the edge
column_fits : (a b s : ℤ) → SFits w32 a → SFits w32 b → LiesWithin (b -ℤ a) s → SFits w32 (a +ℤ s)
column_fits a b s a_fits b_fits within =
    let from = within.low (neg_ℤ (pos (2 ^ 31)) -ℤ a) (omega (arith, ints, a_fits.sfits)) (omega (arith, ints, b_fits.sfits)) in
    let to = within.high ((pos (2 ^ 31) -ℤ pos 1) -ℤ a) (omega (arith, ints, a_fits.sfits)) (omega (arith, ints, b_fits.sfits)) in
    fits (a +ℤ s) (omega (arith, ints, from)) (omega (arith, ints, to))

pub returns : goal.returns
unfolding shift
returns c =
    let a = c.args.a.now in
    let b = c.args.b.now in
    let a_x : SFits w32 a.0 = search rules in
    let a_z : SFits w32 a.1 = search rules in
    let b_x : SFits w32 b.0 = search rules in
    let b_z : SFits w32 b.1 = search rules in
    let gap_x = gap_fits c.gap.result c.gap.ensures.low c.gap.ensures.high ∙ gap_is c.gap.result b.0 a.0 b_x a_x c.gap.ensures.value in
    let way_z = gap_fits c.gap-2.result c.gap-2.ensures.low c.gap-2.ensures.high ∙ gap_is c.gap-2.result c.args.z a.1 c.ranges.z a_z c.gap-2.ensures.value in
    let gap_z = gap_fits c.gap-3.result c.gap-3.ensures.low c.gap-3.ensures.high ∙ gap_is c.gap-3.result b.1 a.1 b_z a_z c.gap-3.ensures.value in
    let whole = to_z-of_z w64 c.share.result (record { sfits = c.share.type_inv }) in
    let value = same_share c.share.result _ _ _ _ _ _ c.share.ensures.value gap_x way_z gap_z in
    let within = subst (λ g. LiesWithin g c.share.result) gap_x c.share.ensures.within in
    record { value = whole ∙ value; fits = rw whole (column_fits a.0 b.0 c.share.result a_x b_x within) }
