use Rattle.std.proofs.Common.{◌≡◌, ◌≢◌, ◌⊎◌, inl, inr, refl, arith}
use Rattle.std.proofs.lemmas.Bool.{cases_eq}
use Rattle.vx_store.specs.ChestParts.{part_of, chests_of}
use Rattle.vx_store.specs.Chests.{slots_of_chest}
use Rattle.vx_base.proofs.Lists.{read_is}
use Rattle.vx_store.proofs.ChestParting.{part_below, parts_counted, alike_by_part, part_by_alike}
use Rattle.vx_store.proofs.parted.same_parts.Goals as goal

pub returns-then-not-same : goal.returns-then-not-same
returns-then-not-same g c =
    let chests = g.P.HasChests.chests in
    let these = c.args.these.now in
    let those = c.args.those.now in
    let here = read_is these c.loop-number.number c.index-these-number.result (omega (arith, c.loop-number-test.true, parts_counted chests c.args.stride these c.requires.these)) c.index-these-number.is in
    let there = read_is those c.loop-number.number c.index-those-number.result (omega (arith, c.loop-number-test.true, parts_counted chests c.args.stride those c.requires.those)) c.index-those-number.is in
    (λ e. cc, λ all. c.if-not-same.ensures.1 (part_by_alike chests c.args.stride these those c.requires.these c.requires.those _ _ _ here there all))

pub loop-number-preserved : goal.loop-number-preserved
loop-number-preserved g c index below = by (cases_eq (part_of c.args.stride index) c.loop-number.number)
  where
    by : (part_of c.args.stride index ≡ c.loop-number.number) ⊎ (part_of c.args.stride index ≢ c.loop-number.number)
        → slots_of_chest (chests_of g.P.HasChests.chests c.args.these.now) index ≡ slots_of_chest (chests_of g.P.HasChests.chests c.args.those.now) index
    by (inl at) =
        let chests = g.P.HasChests.chests in
        let these = c.args.these.now in
        let those = c.args.those.now in
        let here = read_is these c.loop-number.number c.index-these-number.result (omega (arith, c.loop-number-test.true, parts_counted chests c.args.stride these c.requires.these)) c.index-these-number.is in
        let there = read_is those c.loop-number.number c.index-those-number.result (omega (arith, c.loop-number-test.true, parts_counted chests c.args.stride those c.requires.those)) c.index-those-number.is in
        alike_by_part chests c.args.stride these those c.requires.these c.requires.those _ _ _ here there (c.same.ensures.0 c.if-not-same.false) index at
    by (inr apart) = c.loop-number.invariant index (omega (arith, below, apart))

pub returns : goal.returns
returns g c = (λ _ index. c.loop-number.invariant index (omega (arith, part_below c.args.stride index, c.loop-number-test.false)), λ _. refl)
