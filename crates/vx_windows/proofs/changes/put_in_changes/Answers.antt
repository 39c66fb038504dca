use Rattle.std.proofs.Common.{map, ap, sym, ◌∙◌}
use Rattle.vx_cells.specs.Wholes.{with_cells_on}
use Rattle.vx_windows.specs.Sectors.{map_with_changes}
use Rattle.vx_windows.proofs.Putting.{puts_in_parts}
use Rattle.vx_windows.proofs.changes.put_in_changes.Goals as goal

pub loop-left-preserved : goal.loop-left-preserved
loop-left-preserved c =
    let a = c.args in
    let before = map_with_changes a.bounds (map (λ c. c.now) a.cells.now) c.loop-left.changes in
    let together = c.split_at.result.0.now in
    let others = c.split_at.result.1.now in (
      ap (λ m. with_cells_on m others) c.in_ok-put_all.ensures.put
          ∙ sym (puts_in_parts before together others)
          ∙ ap (with_cells_on before) (sym c.split_at.ensures.by_index.0)
          ∙ c.loop-left.invariant.0,
      c.in_ok-put_all.ensures.placed,
      λ ss are. c.in_ok-put_all.ensures.quiet ss (c.loop-left.invariant.2 ss are),
    )
