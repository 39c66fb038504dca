use Rattle.std.proofs.Common.{◌≡◌, ◌+◌, suc, ◌≤◌, ◌∷◌, [], ◌++◌, length, take, get_or, slice_get, Some, sym, ap, ◌∙◌, subst, arith}
use Rattle.std.proofs.lemmas.List.{append_assoc}
use Rattle.std.proofs.lemmas.Option.{slice_get-get_or}
use Rattle.vx_tick.specs.Ticks.{effects, moved_cells}
use Rattle.vx_tick.proofs.PutDown.{zip_more, zip_whole}
use Rattle.vx_tick.proofs.effects.add.Goals as goal

pub loop-i-preserved : goal.loop-i-preserved
loop-i-preserved g c =
    let w = g.S.Standing.stands c.args.map.now in
    let m = c.args.m.now in
    let i = c.loop-i.i in
    let old = c.args.cells.now.items in
    let p = get_or c.as_slice-places.result.now i _ in
    let cells : c.as_slice-places.result.now ≡ m.cells = c.as_slice-places.ensures.value ∙ ap (λ x. x.cells) c.m.view_is in
    let there : slice_get m.cells i ≡ Some p =
    subst (λ ps. slice_get ps i ≡ Some p) cells (slice_get-get_or c.as_slice-places.result.now i _ c.loop-i-test.true) in
    let next : suc i ≡ i + 1 = omega arith in
    c.in_ok-push.ensures.items
    ∙ ap (λ items. items ++ ((p, c.moved_cell.result) ∷ [])) c.loop-i.invariant
    ∙ append_assoc old (take i (effects w m)) ((p, c.moved_cell.result) ∷ [])
    ∙ ap (λ items. old ++ items) (sym (zip_more m.cells (moved_cells w m) i p c.moved_cell.result there c.moved_cell.ensures))
    ∙ ap (λ n. old ++ take n (effects w m)) next

pub returns : goal.returns
returns g c =
    let w = g.S.Standing.stands c.args.map.now in
    let m = c.args.m.now in
    let i = c.loop-i.i in
    let cells : c.as_slice-places.result.now ≡ m.cells = c.as_slice-places.ensures.value ∙ ap (λ x. x.cells) c.m.view_is in
    let past : length m.cells ≤ i = subst (λ ps. length ps ≤ i) cells (omega (arith, c.loop-i-test.false)) in
    c.loop-i.invariant ∙ ap (λ items. c.args.cells.now.items ++ items) (zip_whole m.cells (moved_cells w m) i past)
