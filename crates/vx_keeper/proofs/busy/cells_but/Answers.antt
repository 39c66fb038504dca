use Rattle.std.proofs.Common.{set, ap, ◌∙◌}
use Rattle.std.proofs.lemmas.List.{with_items_is}
use Rattle.vx_windows.specs.Sectors.{cells_of}
use Rattle.vx_keeper.proofs.Renewing.{next_put}
use Rattle.vx_keeper.proofs.busy.cells_but.Goals as goal

pub loop-sector-preserved : goal.loop-sector-preserved
loop-sector-preserved c =
    let s = c.sector-item.result in
    let n = c.number_of.result in
    let x = c.cells-in-loop-sector.result in
    let whole = with_items_is c.loop-sector.cells c.put_at.new.places (c.put_at.auto.places ∙ c.deref_mut.ensures.len) in
    next_put (λ d. d.now) cells_of c.loop-sector.cells.items _ n x c.args.busy.now c.loop-sector.sector-index s s
    c.loop-sector-test.true c.sector-item.is c.number_of.ensures c.cells-in-loop-sector.ensures.cells
    (whole ∙ c.put_at.ensures ∙ ap (λ xs. set xs n x) c.deref_mut.ensures.value)
    ∙ c.loop-sector.invariant
