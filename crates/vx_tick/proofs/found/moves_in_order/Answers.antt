use Rattle.std.proofs.Common.{◌≡◌, true, IsPermutation, is_lt, sym, ap, subst, ◌∙◌, rules}
use Rattle.std.specs.List.Sorted.{IsSortedBy}
use Rattle.std.proofs.lemmas.List.Sorted.{All-permutation}
use Rattle.std.proofs.lemmas.Result.{IfOk-weaker}
use Rattle.vx_cells.specs.Maps.{cell_on}
use Rattle.vx_geom.specs.Order.{compared}
use Rattle.vx_geom.proofs.OrderLemmas.{derived_cmp}
use Rattle.vx_piston.specs.Moves.{is_restless}
use Rattle.vx_tick.specs.Ticks.{asked, AreInOrder}
use Rattle.vx_tick.proofs.AskedInOrder.{asked_in_order}
use Rattle.vx_tick.proofs.found.moves_in_order.Goals as goal

pub returns : goal.returns
returns c =
    let m = c.args.map.now in
    let given = c.args.restless.now in
    let order = c.as_slice.result.now in
    let copied : c.in_ok-order.order.items ≡ given = search rules in
    let same : IsPermutation given order =
    subst (IsPermutation given) (sym c.as_slice.ensures.value)
    (subst (λ ps. IsPermutation ps c.sort_unstable.new.self.items) copied c.sort_unstable.ensures.permutation) in
    let sorted : IsSortedBy (λ p q. is_lt (compared p q)) c.sort_unstable.new.self.items =
    λ k d least within. ap is_lt (sym (derived_cmp _ _)) ∙ c.sort_unstable.ensures.sorted k d least within in
    let rises = subst (IsSortedBy (λ p q. is_lt (compared p q))) (sym c.as_slice.ensures.value) sorted in
    IfOk-weaker c.moves_among.result _ _
    (λ moves found level all.
    subst (AreInOrder (asked m level given))
    (sym (found level (All-permutation (λ p. is_restless (cell_on m) level p ≡ true) given order same all)))
    (asked_in_order m level given order same rises))
    c.moves_among.ensures
