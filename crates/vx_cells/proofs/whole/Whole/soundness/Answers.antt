use Rattle.std.proofs.Common.{[], ◌∷◌, ◌++◌, take, sym, ap, ◌∙◌, subst, arith}
use Rattle.std.specs.List.{All}
use Rattle.std.proofs.lemmas.List.{take_more, take_all}
use Rattle.std.proofs.lemmas.List.Elements.{All-push}
use Rattle.vx_cells.specs.MapLaws.{IsFilled}
use Rattle.vx_cells.specs.SectorCells.{IsWhole}
use Rattle.vx_cells.proofs.whole.Whole.soundness.Goals as goal

pub loop-cells-preserved : goal.loop-cells-preserved
loop-cells-preserved c =
    let items = c.deref-cells-items.result.now in
    let i = c.loop-cells.cells-index in
    let cells = c.cells-item.result in
    subst (All IsWhole)
    (sym (take_more items i cells c.loop-cells-test.true
    ∙ ap (λ last. take i items ++ (last ∷ [])) (sym c.cells-item.is)))
    (All-push IsWhole (take i items) cells c.loop-cells.invariant c.soundness.ensures)

pub returns : goal.returns
returns c =
    let items = c.deref-cells-items.result.now in
    let all = take_all c.loop-cells.cells-index items
    (omega (arith, c.loop-cells-test.false, c.loop-cells.auto.cells-index-end)) in
    subst IsFilled c.self.view_is (record {
      map = c.self.invariant;
      each = subst (All IsWhole) (all ∙ c.deref-cells-items.ensures.value) c.loop-cells.invariant;
    })
