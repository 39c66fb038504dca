use Rattle.std.proofs.Common.{◌≡◌, ◌+◌, ◌<◌, None, MatchOption, true, map, get_or, length, unwrap_or, sym, ap, ◌∙◌, subst, arith}
use Rattle.std.proofs.lemmas.List.{get_or-map, length-map}
use Rattle.vx_windows.specs.Sectors.{window_over}
use Rattle.vx_keeper.specs.Readiness.{AreNext}
use Rattle.vx_keeper.proofs.Nexts.{one_next}
use Rattle.vx_keeper.proofs.ready_at_rest.all_next.Goals as goal

pub loop-number-preserved : goal.loop-number-preserved
loop-number-preserved c =
    let v = c.args.version.now in
    let k = c.loop-number.number in
    let cells = c.args.cells.now in
    let cs = map (λ d. d.now) cells in
    let ys = c.args.changes.now in
    let x = c.index-cells-number.result in
    let y = c.index-changes-number.result in
    let within : k < length cells = c.loop-number-test.true in
    let here : get_or cs k x.now ≡ x.now = get_or-map (λ d. d.now) cells k x x.now within ∙ ap (λ d. d.now) (sym c.index-cells-number.is) in
    let is = subst (λ next. MatchOption next ((y ≡ None) × (true ≡ true)) (λ f. f ≡ window_over v (unwrap_or y x.now)))
    c.in-Some.is c.in_ok-next.ensures in
    subst (AreNext v cs ys (k + 1)) (sym c.in_ok-push.ensures.items)
    (one_next v cs ys k c.loop-number.all.items x.now y c.in-Some.fresh c.loop-number.invariant
    (omega (arith, within, length-map cells (λ d. d.now))) (omega (arith, c.requires, length-map cells (λ d. d.now)))
    here c.index-changes-number.is is)
