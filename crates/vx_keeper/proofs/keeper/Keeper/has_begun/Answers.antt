use Rattle.std.proofs.Common.{◌≡◌, length, slice_get, get_or, Some, sym, ap, ◌∙◌, arith}
use Rattle.std.proofs.lemmas.Bool.Decides.{Decides-like}
use Rattle.std.proofs.lemmas.Option.{get_or_from_slice_get, slice_get-get_or}
use Rattle.vx_cells.specs.SectorCells.{SectorCells, only_air}
use Rattle.vx_cells.proofs.MapLemmas.{placed_at}
use Rattle.vx_policy.specs.declared.version.Version.{Version}
use Rattle.vx_keeper.specs.Keepers.{KeeperData}
use Rattle.vx_keeper.proofs.keeper.Keeper.has_begun.Goals as goal

pub returns : goal.returns
returns g c =
    let k = c.args.self.now in
    let s = c.args.sector.now in
    let at = c.args.at in
    let cs = k.world.map.sectors in
    let air = only_air k.world.map.sizes at in
    let part = c.requires.part c.if-not-is_part.false in
    let here : slice_get cs at ≡ Some (get_or cs at air) = slice_get-get_or cs at air (omega (arith, c.requires.there, c.soundness.ensures.each)) in
    let version = ap (λ (w : KeeperData). w.world.version) c.self.view_is in
    let number : s.version.tick ≡ k.world.version.tick =
    c.is_numbered.ensures.0 c.if-not-is_numbered.false ∙ ap (λ (v : Version). v.tick) (c.version.ensures ∙ version) in
    let same : s.version ≡ k.world.version = (λ i. record s.version { tick = number i }) ∙ part.1 in
    Decides-like _ (λ there. (sym (get_or_from_slice_get cs at s.base air (ap (slice_get cs) (sym there) ∙ part.0)), same))
    (λ began. ap (λ (d : SectorCells). d.sector) began.0 ∙ omega (arith, (placed_at k.world.map.sizes 0 at cs (get_or cs at air) c.soundness.ensures.whole.each here).1))
    c.is_at.ensures

pub has-requires : goal.has-requires
has-requires g c =
    let each = c.soundness.ensures.each in
    omega (arith, c.requires.there, each, ap (λ (k : KeeperData). length k.world.map.sectors) c.self.view_is)
