use Rattle.std.proofs.Common.{◌≡◌, ℕ, ◌+◌, ◌<◌, [], ◌∷◌, ◌++◌, List, length, take, get_or, set, sym, ap, subst, ◌∙◌, arith}
use Rattle.std.proofs.lemmas.List.{length-map, take_all, take_more}
use Rattle.vx_sector.specs.SectorData.{entry_of}
use Rattle.vx_windows.specs.Sectors.{entries_in}
use Rattle.vx_record.specs.Archives.{next_counts}
use Rattle.vx_record.specs.Kept.{windows_kept, AreInOrder}
use Rattle.vx_record.specs.declared.kept_window.KeptWindow.{KeptWindow}
use Rattle.vx_record.proofs.Counting.{length_next, next_at, next_empty, next_set}
use Rattle.vx_record.proofs.Keeping.{as_many, empty_at, is_below, kept_at, later_than, put_last}
use Rattle.vx_record.proofs.closed_windows.ClosedWindows.count_into.Goals as goal

pub loop-window-init : goal.loop-window-init
loop-window-init c = sym (next_empty c.args.counts.now)

-- a window that is kept, at its turn
module _ (c : goal.After-slice_known-in-loop-window-1) where
  abbrev counts : List ℕ
  counts = c.args.counts.now

  abbrev items : List KeptWindow
  items = c.deref-window-items.result.now

  abbrev k : ℕ
  k = c.loop-window.window-index

  abbrev window : KeptWindow
  window = c.window-item.result

  many : c.self.inside.sectors ≡ length counts
  many = sym (as_many c.self.inside.sectors c.self.inside.kept.items) ∙ ap length c.self.view_is ∙ c.requires.each

  order : AreInOrder (length counts) items
  order =
      subst (λ n. AreInOrder n items) many
      (subst (λ (ws : List KeptWindow). AreInOrder c.self.inside.sectors ws) (sym c.deref-window-items.ensures.value) c.self.invariant)

  all : windows_kept (length counts) items ≡ c.args.self.now
  all = (λ i. windows_kept (sym many i) (c.deref-window-items.ensures.value i)) ∙ c.self.view_is

  below : window.sector < length counts
  below = is_below (length counts) items k window order c.loop-window-test.true c.window-item.is

  here : get_or c.args.self.now window.sector [] ≡ entries_in window.entries
  here = ap (λ ws. get_or ws window.sector []) (sym all) ∙ kept_at (length counts) items k window order c.loop-window-test.true c.window-item.is

  -- none of its sector is kept before
  none : get_or (windows_kept (length counts) (take k items)) window.sector [] ≡ []
  none =
      empty_at (length counts) (take k items) window.sector
      (λ j d near. let early = later_than (length counts) items k window order c.loop-window-test.true c.window-item.is j d near in
      λ same. absurd (omega (arith, early, same)))

  long : length (entries_in window.entries) ≡ c.len.result
  long = omega (arith, length-map window.entries.items entry_of, c.len.ensures, window.entries.ok.0)

pub bounds-counts-window : goal.bounds-counts-window
bounds-counts-window c =
    let i = c.self.inside in
    let items = c.deref-window-items.result.now in
    let order : AreInOrder i.sectors items =
    subst (λ (ws : List KeptWindow). AreInOrder i.sectors ws) (sym c.deref-window-items.ensures.value) c.self.invariant in
    let below = is_below i.sectors items c.loop-window.window-index c.window-item.result order c.loop-window-test.true c.window-item.is in
    omega (arith, below, c.loop-window.auto.counts, c.requires.each, ap length c.self.view_is, as_many i.sectors i.kept.items)

pub bounds-counts-window-in-loop-window : goal.bounds-counts-window-in-loop-window
bounds-counts-window-in-loop-window c = omega (arith, below c, c.loop-window.auto.counts)

pub offset_bounds-counts-window : goal.offset_bounds-counts-window
offset_bounds-counts-window c =
    let i = c.self.inside in
    let items = c.deref-window-items.result.now in
    let order : AreInOrder i.sectors items =
    subst (λ (ws : List KeptWindow). AreInOrder i.sectors ws) (sym c.deref-window-items.ensures.value) c.self.invariant in
    let below = is_below i.sectors items c.loop-window.window-index c.window-item.result order c.loop-window-test.true c.window-item.is in
    let near : c.window-item.result.sector < length c.loop-window.counts =
    omega (arith, below, c.loop-window.auto.counts, c.requires.each, ap length c.self.view_is, as_many i.sectors i.kept.items) in
    omega (arith, near)

pub overflow_add-counts : goal.overflow_add-counts
overflow_add-counts c =
    let now = c.loop-window.counts in
    let before = windows_kept (length (counts c)) (take (k c) (items c)) in
    let so_far = ap (λ ns. get_or ns (window c).sector 0) c.loop-window.invariant ∙ next_at (counts c) before (window c).sector (below c) in
    let there : (window c).sector < length (next_counts (counts c) c.args.self.now) = omega (arith, below c, length_next (counts c) c.args.self.now) in
    let most = c.requires.most (window c).sector 0 there in
    omega (arith, so_far, ap length (none c), most, next_at (counts c) c.args.self.now (window c).sector (below c), ap length (here c), long c)

pub loop-window-preserved : goal.loop-window-preserved
loop-window-preserved c =
    let before = windows_kept (length (counts c)) (take (k c) (items c)) in
    let front : take (k c + 1) (items c) ≡ take (k c) (items c) ++ window c ∷ [] =
    take_more (items c) (k c) (window c) c.loop-window-test.true
    ∙ ap (λ w. take (k c) (items c) ++ w ∷ []) (sym c.window-item.is) in
    let last = later_than (length (counts c)) (items c) (k c) (window c) (order c) c.loop-window-test.true c.window-item.is in
    ap (λ ns. set ns (window c).sector (get_or ns (window c).sector 0 + c.len.result)) c.loop-window.invariant
    ∙ ap (λ n. set (next_counts (counts c) before) (window c).sector (get_or (next_counts (counts c) before) (window c).sector 0 + n)) (sym (long c))
    ∙ sym (next_set (counts c) before (window c).sector (entries_in (window c).entries) (below c)
    (omega (arith, below c, as_many (length (counts c)) (take (k c) (items c)))) (none c))
    ∙ ap (next_counts (counts c)) (sym (put_last (length (counts c)) (take (k c) (items c)) (window c) last))
    ∙ ap (λ ws. next_counts (counts c) (windows_kept (length (counts c)) ws)) (sym front)

pub returns : goal.returns
returns c =
    let counts = c.args.counts.now in
    let items = c.deref-window-items.result.now in
    let many : c.self.inside.sectors ≡ length counts =
    sym (as_many c.self.inside.sectors c.self.inside.kept.items) ∙ ap length c.self.view_is ∙ c.requires.each in
    c.loop-window.invariant
    ∙ ap (λ ws. next_counts counts (windows_kept (length counts) ws)) (take_all c.loop-window.window-index items c.loop-window-test.false)
    ∙ ap (next_counts counts) ((λ i. windows_kept (sym many i) (c.deref-window-items.ensures.value i)) ∙ c.self.view_is)
