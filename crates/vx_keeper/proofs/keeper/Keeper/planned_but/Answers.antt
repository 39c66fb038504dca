use Rattle.std.proofs.Common.{◌≡◌, false, Result, Ok, Err, IfOk, IfSome, map, sym, ap, subst, ◌∙◌}
use Rattle.std.proofs.lemmas.Option.{IfSome_then}
use Rattle.vx_cells.specs.Maps.{AreSectors, MapData, cell_on}
use Rattle.vx_geom.specs.declared.pos.Pos.{Pos}
use Rattle.vx_policy.specs.declared.version.Version.{Version}
use Rattle.vx_power.specs.Levels.{has}
use Rattle.vx_still.specs.Watching.{with_written, IsWatch}
use Rattle.vx_still.proofs.Watching.{writes_keep_watch}
use Rattle.vx_tick.specs.Leaving.{IsPlanned}
use Rattle.vx_windows.specs.Sectors.{cells_of}
use Rattle.vx_windows.specs.Writing.{map_before}
use Rattle.vx_windows.proofs.Sparing.{map_spared}
use Rattle.vx_keeper.specs.Busy.{resting_but, with_each}
use Rattle.vx_keeper.specs.Keepers.{KeeperData, map_now}
use Rattle.vx_keeper.proofs.Among.{but_each, but_held, but_map, but_sectors, but_spared}
use Rattle.vx_keeper.proofs.Knowing.{whole_now}
use Rattle.vx_keeper.proofs.keeper.Keeper.planned_but.Goals as goal

pub apart-map-requires : goal.apart-map-requires
apart-map-requires g c =
    let first = g.A.Naming.first in
    let many = g.A.Places.all in
    let k = c.args.self.now in
    let busy = c.args.busy.now in
    let ss = resting_but k busy in
    let held = but_held first many k c.soundness.ensures busy c.requires.known in
    let inside : c.self.inside.known.map.sectors ≡ k.world.map.sectors =
    ap (λ (k : KeeperData). k.world.map.sectors) (c.self.view_is ∙ c.take_watch-watch.ensures.same) in
    let sizes = c.bounds.ensures ∙ ap (λ (k : KeeperData). k.world.map.sizes) (c.self.view_is ∙ c.take_watch-watch.ensures.same) in
    let cells : map (λ d. d.now) c.deref.result.now ≡ map cells_of ss =
    ap (map (λ d. d.now)) c.deref.ensures.value ∙ c.in_ok-cells.ensures
    ∙ ap (λ cs. with_each cells_of cs busy) inside
    ∙ ap (λ (m : MapData). m.sectors) (sym (but_map first many k c.soundness.ensures busy)) in
    subst (AreSectors c.bounds.result) (sym cells)
    (subst (λ v. AreSectors v (map cells_of ss)) (sym sizes)
    (whole_now first many k c.soundness.ensures ss (but_each first many k c.soundness.ensures busy c.requires.known)
    (but_sectors first many k c.soundness.ensures busy c.requires.known c.are_sectors.ensures) held.bases))

pub plan_parts-requires-clause-watch : goal.plan_parts-requires-clause-watch
plan_parts-requires-clause-watch g c κs within =
    let first = g.A.Naming.first in
    let many = g.A.Places.all in
    let k = c.args.self.now in
    let busy = c.args.busy.now in
    let ss = resting_but k busy in
    let held = but_held first many k c.soundness.ensures busy c.requires.known in
    let inside : c.self.inside.known.map.sectors ≡ k.world.map.sectors =
    ap (λ (k : KeeperData). k.world.map.sectors) (c.self.view_is ∙ c.take_watch-watch.ensures.same) in
    let sizes = c.bounds.ensures ∙ ap (λ (k : KeeperData). k.world.map.sizes) (c.self.view_is ∙ c.take_watch-watch.ensures.same) in
    let cells : map (λ d. d.now) c.deref.result.now ≡ map cells_of ss =
    ap (map (λ d. d.now)) c.deref.ensures.value ∙ c.in_ok-cells.ensures
    ∙ ap (λ cs. with_each cells_of cs busy) inside
    ∙ ap (λ (m : MapData). m.sectors) (sym (but_map first many k c.soundness.ensures busy)) in
    let now : MapData = map_now k ss in
    let map_is : c.apart-map.result ≡ now = c.apart-map.ensures ∙ (λ j. record { sizes = sizes j; sectors = cells j }) in
    let before : map_before k.world.map.sizes ss ≡ k.world.map =
    λ j. record { sizes = k.world.map.sizes; sectors = sym held.bases j } in
    let whole = whole_now first many k c.soundness.ensures ss (but_each first many k c.soundness.ensures busy c.requires.known)
    (but_sectors first many k c.soundness.ensures busy c.requires.known c.are_sectors.ensures) held.bases in
    let places : c.as_slice.result.now ≡ c.in_ok-written.written.items = c.as_slice.ensures.value in
    let spared : (p : Pos) → has c.as_slice.result.now p ≡ false → cell_on now p ≡ cell_on (map_before k.world.map.sizes ss) p =
    λ p none. map_spared k.world.map.sizes p ss whole
    (but_spared k p busy (c.in_ok-written.ensures p (ap (λ ps. has ps p) (sym places) ∙ none))) in
    let places_now = c.as_slice.result.now in
    let kept : IfSome c.take_watch-watch.result (IsWatch k.world.map) = c.take_watch-watch.ensures.watch in
    subst (λ m. IfSome c.take_watch-watch.result (λ watch. IsWatch m (with_written watch places_now))) (sym map_is)
    (IfSome_then c.take_watch-watch.result {P = IsWatch k.world.map} {Q = λ watch. IsWatch now (with_written watch places_now)} kept
    (λ watch is. writes_keep_watch (map_before k.world.map.sizes ss) now watch places_now
    (subst (λ m. IsWatch m watch) (sym before) is) spared))

-- what follows from four things that are said of the value in an `Ok`
all_four : {T E : Type 0} (r : Result T E) {P Q R S U : T → Type 0} → IfOk r P → IfOk r Q → IfOk r R → IfOk r S
    → ((x : T) → P x → Q x → R x → S x → U x) → IfOk r U
all_four (Ok x) p q r s follows = follows x p q r s
all_four (Err e) p q r s follows = tt

pub returns-clause-planned : goal.returns-clause-planned
returns-clause-planned g c =
    let first = g.A.Naming.first in
    let many = g.A.Places.all in
    let k = c.args.self.now in
    let busy = c.args.busy.now in
    let before = c.self.view_is ∙ c.take_watch-watch.ensures.same in
    let sizes = c.bounds.ensures ∙ ap (λ (k : KeeperData). k.world.map.sizes) before in
    let cells : map (λ d. d.now) c.deref.result.now ≡ map cells_of (resting_but k busy) =
    ap (map (λ d. d.now)) c.deref.ensures.value ∙ c.in_ok-cells.ensures
    ∙ ap (λ cs. with_each cells_of cs busy) (ap (λ (k : KeeperData). k.world.map.sectors) before)
    ∙ ap (λ (m : MapData). m.sectors) (sym (but_map first many k c.soundness.ensures busy)) in
    let map_is : c.apart-map.result ≡ map_now k (resting_but k busy) =
    c.apart-map.ensures ∙ (λ j. record { sizes = sizes j; sectors = cells j }) in
    let version : c.version.result.now ≡ k.world.version = c.version.ensures ∙ ap (λ (k : KeeperData). k.world.version) before in
    all_four c.plan_parts.result c.plan_parts.ensures.puts c.plan_parts.ensures.fates c.plan_parts.ensures.chests c.plan_parts.ensures.watch
    (λ planned puts fates chests watch.
    subst (λ m. IsPlanned k.world.version.policy m planned) map_is
    (subst (λ (v : Version). IsPlanned v.policy c.apart-map.result planned) version
    (record { puts = puts; fates = fates; chests = chests; watch = watch })))
