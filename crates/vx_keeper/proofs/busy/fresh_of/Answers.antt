use Rattle.std.proofs.Common.{◌≡◌, ◌+◌, ◌<◌, None, MatchOption, false, true, map, get_or, length, slice_get, take, unwrap_or, Some, sym, ap, ◌∙◌, subst, arith}
use Rattle.std.proofs.lemmas.List.{get_or-map, length-map}
use Rattle.vx_sector.specs.SectorData.{FreshData, SectorData}
use Rattle.vx_windows.specs.Sectors.{window_over, with_changes}
use Rattle.vx_keeper.specs.Busy.{AreNextOf}
use Rattle.vx_keeper.proofs.Nexts.{changed_at}
use Rattle.vx_keeper.proofs.Renewing.{next_given}
use Rattle.vx_keeper.proofs.busy.fresh_of.Goals as goal

pub loop-sector-preserved : goal.loop-sector-preserved
loop-sector-preserved c =
    let v = c.args.version.now in
    let i = c.loop-sector.sector-index in
    let busy = c.args.busy.now in
    let s = c.sector-item.result in
    let n = c.number_of-at.result in
    let cells = c.args.cells.now in
    let cs = map (λ d. d.now) cells in
    let ys = c.args.changes.now in
    let x = c.index-cells-at.result in
    let y = c.index-changes-at.result in
    let f = c.in-Some.fresh in
    let within : i < length busy = c.loop-sector-test.true in
    let lies : s.base.sector < length cells =
    subst (λ (t : SectorData). t.base.sector < length cells) (sym c.sector-item.is) (c.requires.there i s within) in
    let below : n < length cells = omega (arith, lies, c.number_of-at.ensures) in
    let here : get_or cs n x.now ≡ x.now = get_or-map (λ d. d.now) cells n x x.now below ∙ ap (λ d. d.now) (sym c.index-cells-at.is) in
    let is : f ≡ window_over v (unwrap_or y x.now) =
    subst (λ next. MatchOption next ((y ≡ None) × (false ≡ true)) (λ g. g ≡ window_over v (unwrap_or y x.now)))
    c.in-Some.is c.in_ok-fresh.ensures in
    let found : slice_get (with_changes cs ys) n ≡ Some f.cells =
    changed_at cs ys n x.now y (omega (arith, below, length-map cells (λ d. d.now)))
    (omega (arith, c.requires.each, length-map cells (λ d. d.now))) here c.index-changes-at.is
    ∙ ap (λ (g : FreshData). Some g.cells) (sym is) in
    subst (AreNextOf (with_changes cs ys) v (take (i + 1) busy)) (sym c.in_ok-push.ensures.items)
    (next_given (with_changes cs ys) v busy i c.loop-sector.all.items s f within c.sector-item.is c.loop-sector.invariant
    (ap (slice_get (with_changes cs ys)) (sym c.number_of-at.ensures) ∙ found) (ap (λ (g : FreshData). g.version) is))
