use Rattle.std.proofs.Common.{true, ◌∙◌, sym, subst, arith}
use Rattle.std.proofs.lemmas.Result.{IfOk-from_err}
use Rattle.vx_geom.specs.declared.extent.Extent.{Extent}
use Rattle.vx_index.specs.Patches.{square, AreInOrder, AreNumbersOf, AreOf}
use Rattle.vx_index.specs.Shapes.{shape_at}
use Rattle.vx_index.proofs.Beginning.{of_none, of_one_more, of_all}
use Rattle.vx_index.proofs.tile.Tile.new.Goals as goal

pub loop-place-init : goal.loop-place-init
loop-place-init c = of_none c.args.regions.now.entries (square c.args.west c.args.north) _ c.new-patches.ensures.items

pub loop-place-preserved : goal.loop-place-preserved
loop-place-preserved c =
    let shape_is = c.of-cut.ensures ∙ c.shape.ensures in
    of_one_more c.args.regions.now.entries (square c.args.west c.args.north) c.loop-place.place _
    c.loop-place.patches.items c.add_patches.new.patches.items c.soundness.ensures.forest.numbered.ascending c.nth.ensures
    c.loop-place.invariant (rw shape_is at c.in_ok-add_patches.ensures.adds) (rw shape_is at c.in_ok-add_patches.ensures.apart)

pub returns-clause-of : goal.returns-clause-of
returns-clause-of c =
    let rs = c.args.regions.now in
    let items = c.loop-place.patches.items in
    let of : AreOf (shape_at rs) (square c.args.west c.args.north) items =
    of_all rs (square c.args.west c.args.north) c.loop-place.place items (omega (arith, c.loop-place-test.false, c.count-place-end.ensures))
    c.loop-place.invariant in
    record {
      patches = subst (λ (e : Extent). AreOf (shape_at rs) e items) (sym c.square.ensures) of;
      numbers = subst (λ ds. AreNumbersOf (λ d. true) ds c.in_ok-numbers.numbers.items) c.deref.ensures.value
          (c.in_ok-numbers.ensures (subst (AreInOrder 0) (sym c.deref.ensures.value) of.ordered));
    }

pub returns-in_err-add_patches-clause-of : goal.returns-in_err-add_patches-clause-of
returns-in_err-add_patches-clause-of c = IfOk-from_err c.from_residual.result _ c.from_residual.ensures.0

pub returns-in_err-add_patches-clause-columns : goal.returns-in_err-add_patches-clause-columns
returns-in_err-add_patches-clause-columns c = IfOk-from_err c.from_residual.result _ c.from_residual.ensures.0
