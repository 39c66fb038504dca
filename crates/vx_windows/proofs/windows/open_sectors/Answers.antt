use Rattle.std.proofs.Common.{[], ◌∷◌, ◌++◌, map, sym, ap, ◌∙◌, rules}
use Rattle.std.proofs.lemmas.Iterator.Consumers.{YieldsList-end}
use Rattle.std.proofs.lemmas.Iterator.Adapters.{YieldsList-from_vec}
use Rattle.std.proofs.lemmas.List.{map-append, map-id}
use Rattle.vx_sector.specs.Windows.{first_window}
use Rattle.vx_windows.specs.Sectors.{opened_by}
use Rattle.vx_windows.proofs.windows.open_sectors.Goals as goal

pub loop-cells-preserved : goal.loop-cells-preserved
loop-cells-preserved c =
    let opened = c.new.ensures ∙ ap first_window c.in_ok-over.ensures in
    c.in_ok-push.ensures.items ∙ (λ i. c.loop-cells.invariant i ++ (opened i ∷ []))
    ∙ sym (map-append (opened_by c.args.version.now) c.loop-cells.yielded (c.in-Some.cells ∷ []))

pub returns : goal.returns
returns c =
    let ended = YieldsList-end (YieldsList-from_vec {s = c.into_iter-cells-iterator.result} c.args.cells.items (search rules) (search rules))
    c.loop-cells.yielded c.loop-cells.cells-iterator c.loop-cells.yielded_by c.next.result c.next.new.self c.in-None.is c.next.ensures.steps in
    c.loop-cells.invariant ∙ ap (map (opened_by c.args.version.now)) (sym (map-id c.loop-cells.yielded) ∙ ended.0)
