use Rattle.std.proofs.Common.{◌<◌, length, map, Some, sym, ap, ◌∙◌, subst, arith, false}
use Rattle.std.proofs.lemmas.List.{length-map}
use Rattle.vx_geom.specs.Sizes.{sector_count}
use Rattle.vx_record.specs.Settling.{IsKnown}
use Rattle.vx_keeper.specs.Keepers.{KeeperData, known}
use Rattle.vx_keeper.specs.Marks.{IsPartOf}
use Rattle.vx_keeper.proofs.Knowing.{sector_there, known_more}
use Rattle.vx_keeper.proofs.Parts.{as_many_said, part_at}
use Rattle.vx_keeper.proofs.keeper.Keeper.first_torn.Goals as goal

pub bounds-sectors-at : goal.bounds-sectors-at
bounds-sectors-at g c =
    let sizes = c.bounds.ensures ∙ ap (λ (k : KeeperData). k.world.map.sizes) c.self.view_is in
    omega (arith, c.loop-number-test.true, c.sectors-number-end.ensures, ap sector_count sizes, c.soundness.ensures.whole.all, c.soundness.ensures.each, c.requires.each)

pub bounds-are_parts-at : goal.bounds-are_parts-at
bounds-are_parts-at g c =
    let sizes = c.bounds.ensures ∙ ap (λ (k : KeeperData). k.world.map.sizes) c.self.view_is in
    let many = as_many_said c.args.self.now.world c.args.are_parts.now c.args.sectors.now c.requires.parts in
    omega (arith, many, c.loop-number-test.true, c.sectors-number-end.ensures, ap sector_count sizes, c.soundness.ensures.whole.all, c.soundness.ensures.each, c.requires.each)

pub knows-requires-clause-there : goal.knows-requires-clause-there
knows-requires-clause-there g c =
    let sizes = c.bounds.ensures ∙ ap (λ (k : KeeperData). k.world.map.sizes) c.self.view_is in
    omega (arith, c.loop-number-test.true, c.sectors-number-end.ensures, ap sector_count sizes, c.soundness.ensures.whole.all, c.soundness.ensures.each)

pub knows-requires-clause-part : goal.knows-requires-clause-part
knows-requires-clause-part g c is =
    let sizes = c.bounds.ensures ∙ ap (λ (k : KeeperData). k.world.map.sizes) c.self.view_is in
    let within : c.loop-number.number < length c.args.sectors.now =
    omega (arith, c.loop-number-test.true, c.sectors-number-end.ensures, ap sector_count sizes, c.soundness.ensures.whole.all, c.soundness.ensures.each, c.requires.each) in
    subst (IsPartOf c.args.self.now.world) (sym c.index-sectors-at.is)
    (part_at c.args.self.now.world c.args.are_parts.now c.args.sectors.now c.requires.parts c.loop-number.number false
    c.index-sectors-at.result within is)

pub loop-number-preserved : goal.loop-number-preserved
loop-number-preserved g c =
    let k = c.args.self.now in
    let n = c.loop-number.number in
    let ss = c.args.sectors.now in
    let sizes = c.bounds.ensures ∙ ap (λ (k : KeeperData). k.world.map.sizes) c.self.view_is in
    let within : n < length ss =
    omega (arith, c.loop-number-test.true, c.sectors-number-end.ensures, ap sector_count sizes, c.soundness.ensures.whole.all, c.soundness.ensures.each, c.requires.each) in
    let there = sector_there n ss c.index-sectors-at.result within ∙ ap Some (sym c.index-sectors-at.is) in
    known_more (known k) (map Some ss) n c.loop-number.invariant
    (subst (λ o. IsKnown o (known k n)) (sym there) (c.knows.ensures.0 c.if-not-knows.false))

pub returns : goal.returns
returns g c n within =
    let sizes = c.bounds.ensures ∙ ap (λ (k : KeeperData). k.world.map.sizes) c.self.view_is in
    c.loop-number.invariant n
    (omega (arith, within, length-map c.args.sectors.now Some, c.loop-number-test.false, c.sectors-number-end.ensures, ap sector_count sizes, c.soundness.ensures.whole.all, c.soundness.ensures.each, c.requires.each))
