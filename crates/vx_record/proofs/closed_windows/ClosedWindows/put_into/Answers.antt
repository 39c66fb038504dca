use Rattle.std.proofs.Common.{◌≡◌, ◌+◌, [], ◌∷◌, ◌++◌, List, length, map, set, take, replicate, sym, ap, subst, ◌∙◌, arith}
use Rattle.std.proofs.lemmas.List.{length-map, length-set, map-set, take_all, take_more}
use Rattle.vx_sector.specs.SectorData.{entry_of}
use Rattle.vx_record.specs.Kept.{windows_kept, AreInOrder}
use Rattle.vx_record.specs.declared.kept_window.KeptWindow.{KeptWindow}
use Rattle.vx_record.proofs.Keeping.{all_empty, as_many, is_below, later_than, put_last}
use Rattle.vx_record.proofs.closed_windows.ClosedWindows.put_into.Goals as goal

pub loop-window-init : goal.loop-window-init
loop-window-init c =
    let places = c.args.places.now in
    all_empty (map (λ place. map entry_of place.now) places) c.requires.empty
    ∙ ap (λ n. replicate n []) (length-map places (λ place. map entry_of place.now))

pub bounds-places-window : goal.bounds-places-window
bounds-places-window c =
    let i = c.self.inside in
    let items = c.deref-window-items.result.now in
    let order : AreInOrder i.sectors items =
    subst (λ (ws : List KeptWindow). AreInOrder i.sectors ws)
    (sym c.deref-window-items.ensures.value) c.self.invariant in
    let below = is_below i.sectors items c.loop-window.window-index c.window-item.result order
    c.loop-window-test.true c.window-item.is in
    let many = ap length c.self.view_is in
    omega (arith, below, c.loop-window.auto.places, c.requires.as_many, many, as_many i.sectors i.kept.items)

pub offset_bounds-places-window : goal.offset_bounds-places-window
offset_bounds-places-window c = let below = bounds-places-window c in omega (arith, below)

pub loop-window-preserved : goal.loop-window-preserved
loop-window-preserved c =
    let places = c.loop-window.places in
    let items = c.deref-window-items.result.now in
    let k = c.loop-window.window-index in
    let window = c.window-item.result in
    let put = c.deref.result in
    let n = length places in
    let sectors = c.self.inside.sectors in
    let order : AreInOrder sectors items =
    subst (λ (ws : List KeptWindow). AreInOrder sectors ws)
    (sym c.deref-window-items.ensures.value) c.self.invariant in
    let before = later_than sectors items k window order c.loop-window-test.true c.window-item.is in
    let front : take (k + 1) items ≡ take k items ++ window ∷ [] =
    take_more items k window c.loop-window-test.true
    ∙ ap (λ w. take k items ++ w ∷ []) (sym c.window-item.is) in
    map-set (λ place. map entry_of place.now) places window.sector put
    ∙ ap (λ ws. set ws window.sector (map entry_of put.now)) c.loop-window.invariant
    ∙ ap (λ es. set (windows_kept n (take k items)) window.sector (map entry_of es)) c.deref.ensures.value
    ∙ sym (put_last n (take k items) window before)
    ∙ ap (windows_kept n) (sym front)
    ∙ ap (λ m. windows_kept m (take (k + 1) items)) (sym (length-set places window.sector put))

pub returns : goal.returns
returns c =
    let i = c.self.inside in
    let items = c.deref-window-items.result.now in
    let n = length c.loop-window.places in
    let many = ap length c.self.view_is in
    let all : n ≡ i.sectors =
    omega (arith, c.loop-window.auto.places, c.requires.as_many, many, as_many i.sectors i.kept.items) in
    let whole = take_all c.loop-window.window-index items c.loop-window-test.false in
    c.loop-window.invariant
    ∙ ap (windows_kept n) (whole ∙ c.deref-window-items.ensures.value)
    ∙ ap (λ m. windows_kept m i.kept.items) all
    ∙ c.self.view_is
