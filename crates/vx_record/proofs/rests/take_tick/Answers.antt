use Rattle.std.proofs.Common.{◌≡◌, ℕ, ◌+◌, ◌-◌, ◌<◌, ◌≤◌, [], length, map, take, get_or, sym, ap, subst, ◌∙◌, arith}
use Rattle.std.proofs.lemmas.List.{length-map, map-set, get_or-map, get_or_default, take_all}
use Rattle.std.proofs.lemmas.Option.{unwrap_or-slice_get}
use Rattle.vx_sector.specs.SectorData.{entry_of}
use Rattle.vx_windows.specs.Sectors.{entries_in}
use Rattle.vx_record.specs.Records.{tick_in}
use Rattle.vx_record.specs.Said.{window_at}
use Rattle.vx_record.specs.Kept.{windows_kept}
use Rattle.vx_record.specs.Rests.{lists_in, AreBehind, IsAstray, AreAllBehind}
use Rattle.vx_record.specs.declared.kept_window.KeptWindow.{KeptWindow}
use Rattle.vx_record.proofs.Keeping.{never_fall}
use Rattle.vx_record.proofs.Tables.{behind_alike, astray_alike, window_more, window_astray, windows_ended}
use Rattle.vx_record.proofs.rests.take_tick.Goals as goal

pub returns-then-tables-at : goal.returns-then-tables-at
returns-then-tables-at c =
    let seats = c.args.seats in
    let first = c.args.first in
    let windows = c.args.tick.now.windows in
    let items = c.kept_from-window-items.result.now in
    let given = c.kept_from-window-items.ensures in
    let k = c.loop-window.window-index in
    let window = c.window-item.result in
    let tables = map lists_in c.args.tables.now in
    let rests = map lists_in c.loop-window.tables in
    let far : (j : ℕ) (d : KeptWindow) → k ≤ j → j < length items
    → first + length tables ≤ (get_or items j d).sector =
    λ j d after near.
    let this : get_or items k d ≡ window =
    get_or_default items k d window c.loop-window-test.true ∙ sym c.window-item.is in
    let later = never_fall (length windows) items given.order k j d after near in
    let sector = ap (λ (w : KeptWindow). w.sector) this in
    omega (
      arith,
      later,
      sector,
      c.if-tables-at.true,
      c.loop-window.auto.tables,
      length-map c.args.tables.now lists_in,
    ) in
    behind_alike seats first tables rests
    (λ k. get_or (windows_kept (length windows) items) k []) (λ k. window_at k (tick_in c.args.tick.now))
    (λ k from. unwrap_or-slice_get windows k [] ∙ given.windows k from)
    (windows_ended seats first (length windows) tables rests items k far c.loop-window.invariant)

pub returns-in-Some : goal.returns-in-Some
returns-in-Some c =
    let seats = c.args.seats in
    let first = c.args.first in
    let windows = c.args.tick.now.windows in
    let items = c.kept_from-window-items.result.now in
    let given = c.kept_from-window-items.ensures in
    let k = c.loop-window.window-index in
    let window = c.window-item.result in
    let at = window.sector - first in
    let seat = c.in-Some.seat in
    let tables = map lists_in c.args.tables.now in
    let rests = map lists_in c.loop-window.tables in
    let from : first ≤ window.sector =
    subst (λ (w : KeptWindow). first ≤ w.sector) (sym c.window-item.is)
    (given.from k window c.loop-window-test.true) in
    let there : at < length tables =
    omega (arith, c.if-tables-at.false, c.loop-window.auto.tables, length-map c.args.tables.now lists_in) in
    let here : get_or rests at [] ≡ lists_in (get_or c.loop-window.tables at c.index-tables-at.result) =
    get_or-map lists_in c.loop-window.tables at c.index-tables-at.result [] c.if-tables-at.false in
    let entries : map entry_of c.deref.result.now ≡ entries_in window.entries =
    ap (map entry_of) c.deref.ensures.value in
    let astray : IsAstray seats (get_or rests at []) (entries_in window.entries) seat =
    subst (λ es. IsAstray seats (get_or rests at []) es seat) entries
    (subst (λ cs. IsAstray seats cs (map entry_of c.deref.result.now) seat) (sym here) c.in-Some.ensures) in
    astray_alike seats first tables
    (λ k. get_or (windows_kept (length windows) items) k []) (λ k. window_at k (tick_in c.args.tick.now)) seat at
    (λ k from. unwrap_or-slice_get windows k [] ∙ given.windows k from)
    (window_astray seats first (length windows) tables rests items k window seat at given.order
    c.loop-window-test.true c.window-item.is (omega (arith, from)) there c.loop-window.invariant astray)

pub loop-window-preserved : goal.loop-window-preserved
loop-window-preserved c =
    let seats = c.args.seats in
    let first = c.args.first in
    let windows = c.args.tick.now.windows in
    let items = c.kept_from-window-items.result.now in
    let given = c.kept_from-window-items.ensures in
    let k = c.loop-window.window-index in
    let window = c.window-item.result in
    let at = window.sector - first in
    let tables = map lists_in c.args.tables.now in
    let rests = map lists_in c.loop-window.tables in
    let left = lists_in c.take_from.new.table in
    let from : first ≤ window.sector =
    subst (λ (w : KeptWindow). first ≤ w.sector) (sym c.window-item.is)
    (given.from k window c.loop-window-test.true) in
    let room : at < length rests =
    omega (arith, c.if-tables-at.false, length-map c.loop-window.tables lists_in) in
    let here : get_or rests at [] ≡ lists_in (get_or c.loop-window.tables at c.index-tables-at.result) =
    get_or-map lists_in c.loop-window.tables at c.index-tables-at.result [] c.if-tables-at.false in
    let entries : map entry_of c.deref.result.now ≡ entries_in window.entries =
    ap (map entry_of) c.deref.ensures.value in
    let taken : AreBehind seats (get_or rests at []) (entries_in window.entries) left =
    subst (λ es. AreBehind seats (get_or rests at []) es left) entries
    (subst (λ cs. AreBehind seats cs (map entry_of c.deref.result.now) left) (sym here) c.in_default.ensures) in
    subst (λ ts. AreAllBehind seats first tables
    (λ s. get_or (windows_kept (length windows) (take (k + 1) items)) s []) ts)
    (sym (map-set lists_in c.loop-window.tables at c.take_from.new.table))
    (window_more seats first (length windows) tables rests items k window left at given.order
    c.loop-window-test.true c.window-item.is (omega (arith, from)) room c.loop-window.invariant taken)

pub returns : goal.returns
returns c =
    let seats = c.args.seats in
    let first = c.args.first in
    let windows = c.args.tick.now.windows in
    let items = c.kept_from-window-items.result.now in
    let given = c.kept_from-window-items.ensures in
    let tables = map lists_in c.args.tables.now in
    let rests = map lists_in c.loop-window.tables in
    behind_alike seats first tables rests
    (λ k. get_or (windows_kept (length windows) items) k []) (λ k. window_at k (tick_in c.args.tick.now))
    (λ k from. unwrap_or-slice_get windows k [] ∙ given.windows k from)
    (subst (λ ws. AreAllBehind seats first tables (λ s. get_or (windows_kept (length windows) ws) s []) rests)
    (take_all c.loop-window.window-index items c.loop-window-test.false) c.loop-window.invariant)
