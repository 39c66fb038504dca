use Rattle.std.proofs.Common.{◌≡◌, ℤ, rules, arith, ap, ◌∙◌, SFits, w32}
use Rattle.std.specs.Int.{int_min, int_max}
use Rattle.std.proofs.lemmas.Int.{ints, clamps, to_z-of_z}
use mir.Val.{to_z, of_z}
use Rattle.vx_geom.proofs.Enclosing.{within_from}
use Rattle.vx_index.proofs.Squares.{lies_amid}
use Rattle.vx_index.proofs.patches.spanned.Goals as goal

-- the lower of two ends, as it is computed
low_is : (a b low : ℤ) → SFits w32 a → SFits w32 b → SFits w32 low → low ≡ int_min (to_z w32 (of_z w32 a)) (to_z w32 (of_z w32 b))
    → to_z w32 (of_z w32 low) ≡ int_min a b
low_is a b low a_fits b_fits low_fits is =
    to_z-of_z w32 low low_fits ∙ is
    ∙ ap (λ n. int_min n (to_z w32 (of_z w32 b))) (to_z-of_z w32 a a_fits) ∙ ap (int_min a) (to_z-of_z w32 b b_fits)

-- and the higher
high_is : (a b high : ℤ) → SFits w32 a → SFits w32 b → SFits w32 high → high ≡ int_max (to_z w32 (of_z w32 a)) (to_z w32 (of_z w32 b))
    → to_z w32 (of_z w32 high) ≡ int_max a b
high_is a b high a_fits b_fits high_fits is =
    to_z-of_z w32 high high_fits ∙ is
    ∙ ap (λ n. int_max n (to_z w32 (of_z w32 b))) (to_z-of_z w32 a a_fits) ∙ ap (int_max a) (to_z-of_z w32 b b_fits)

pub returns-clause-these : goal.returns-clause-these
returns-clause-these c p within =
    let amid = lies_amid c.args.these.now p within in
    let west = low_is c.args.these.now.west c.args.others.now.west c.min.result (search rules) (search rules) (record { sfits = c.min.type_inv }) c.min.ensures.value in
    let east = high_is c.args.these.now.east c.args.others.now.east c.max.result (search rules) (search rules) (record { sfits = c.max.type_inv }) c.max.ensures.value in
    let north = low_is c.args.these.now.north c.args.others.now.north c.min-2.result (search rules) (search rules) (record { sfits = c.min-2.type_inv }) c.min-2.ensures.value in
    let south = high_is c.args.these.now.south c.args.others.now.south c.max-2.result (search rules) (search rules) (record { sfits = c.max-2.type_inv }) c.max-2.ensures.value in
    within_from _ p
    (omega (arith, ints, clamps, west, amid.west)) (omega (arith, ints, clamps, east, amid.east))
    (omega (arith, ints, clamps, north, amid.north)) (omega (arith, ints, clamps, south, amid.south))

pub returns-clause-others : goal.returns-clause-others
returns-clause-others c p within =
    let amid = lies_amid c.args.others.now p within in
    let west = low_is c.args.these.now.west c.args.others.now.west c.min.result (search rules) (search rules) (record { sfits = c.min.type_inv }) c.min.ensures.value in
    let east = high_is c.args.these.now.east c.args.others.now.east c.max.result (search rules) (search rules) (record { sfits = c.max.type_inv }) c.max.ensures.value in
    let north = low_is c.args.these.now.north c.args.others.now.north c.min-2.result (search rules) (search rules) (record { sfits = c.min-2.type_inv }) c.min-2.ensures.value in
    let south = high_is c.args.these.now.south c.args.others.now.south c.max-2.result (search rules) (search rules) (record { sfits = c.max-2.type_inv }) c.max-2.ensures.value in
    within_from _ p
    (omega (arith, ints, clamps, west, amid.west)) (omega (arith, ints, clamps, east, amid.east))
    (omega (arith, ints, clamps, north, amid.north)) (omega (arith, ints, clamps, south, amid.south))
