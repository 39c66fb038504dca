use Rattle.std.proofs.Common.{◌≡◌, false, IfSome, map, sym, ap, subst, ◌∙◌}
use Rattle.std.proofs.lemmas.Option.{IfSome_then}
use Rattle.vx_geom.specs.declared.pos.Pos.{Pos}
use Rattle.vx_cells.specs.Maps.{MapData, AreSectors, cell_on}
use Rattle.vx_power.specs.Levels.{has}
use Rattle.vx_still.specs.Watching.{with_written, IsWatch}
use Rattle.vx_still.proofs.Watching.{writes_keep_watch}
use Rattle.vx_windows.specs.Sectors.{cells_of}
use Rattle.vx_windows.specs.Writing.{map_before}
use Rattle.vx_windows.proofs.Sparing.{map_spared}
use Rattle.vx_keeper.specs.Keepers.{KeeperData}
use Rattle.vx_keeper.proofs.Knowing.{held_of, whole_now}
use Rattle.vx_keeper.proofs.keeper.Keeper.worked.Goals as goal

pub apart-map-requires : goal.apart-map-requires
apart-map-requires g c =
    let first = g.A.Naming.first in
    let many = g.A.Places.all in
    let k = c.args.self.now in
    let ss = c.args.sectors.now in
    let held = held_of first many k c.soundness.ensures ss c.requires.each c.requires.known in
    let sizes = c.bounds.ensures ∙ ap (λ (k : KeeperData). k.world.map.sizes) c.self.view_is in
    let cells = ap (map (λ d. d.now)) c.deref.ensures.value ∙ c.in_ok-cells.ensures in
    subst (AreSectors c.bounds.result) (sym cells)
    (subst (λ v. AreSectors v (map cells_of ss)) (sym sizes)
    (whole_now first many k c.soundness.ensures ss c.requires.each c.are_sectors.ensures held.bases))

pub plan_parts-requires-clause-watch : goal.plan_parts-requires-clause-watch
plan_parts-requires-clause-watch g c κs within =
    let first = g.A.Naming.first in
    let many = g.A.Places.all in
    let k = c.args.self.now in
    let ss = c.args.sectors.now in
    let held = held_of first many k c.soundness.ensures ss c.requires.each c.requires.known in
    let sizes = c.bounds.ensures ∙ ap (λ (k : KeeperData). k.world.map.sizes) c.self.view_is in
    let cells = ap (map (λ d. d.now)) c.deref.ensures.value ∙ c.in_ok-cells.ensures in
    let now : MapData = record { sizes = k.world.map.sizes; sectors = map cells_of ss } in
    let map_is : c.apart-map.result ≡ now = c.apart-map.ensures ∙ (λ j. record { sizes = sizes j; sectors = cells j }) in
    let before : map_before k.world.map.sizes ss ≡ k.world.map =
    λ j. record { sizes = k.world.map.sizes; sectors = sym held.bases j } in
    let whole = whole_now first many k c.soundness.ensures ss c.requires.each c.are_sectors.ensures held.bases in
    let places : c.as_slice.result.now ≡ c.in_ok-written.written.items = c.as_slice.ensures.value in
    let spared : (p : Pos) → has c.as_slice.result.now p ≡ false → cell_on now p ≡ cell_on (map_before k.world.map.sizes ss) p =
    λ p none. map_spared k.world.map.sizes p ss whole
    (c.in_ok-written.ensures p (ap (λ ps. has ps p) (sym places) ∙ none)) in
    let places_now = c.as_slice.result.now in
    subst (λ m. IfSome c.args.watch (λ watch. IsWatch m (with_written watch places_now))) (sym map_is)
    (IfSome_then c.args.watch {P = IsWatch k.world.map} {Q = λ watch. IsWatch now (with_written watch places_now)} c.requires.watch
    (λ watch is. writes_keep_watch (map_before k.world.map.sizes ss) now watch places_now
    (subst (λ m. IsWatch m watch) (sym before) is) spared))
