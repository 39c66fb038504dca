use Rattle.std.proofs.Common.{◌≡◌, ◌<◌, Some, slice_get, ap, sym, subst, ◌∙◌}
use Rattle.vx_geom.specs.Sizes.{sector_count, is_inside, sector_number}
use Rattle.vx_cells.specs.Maps.{MapData}
use Rattle.vx_cells.specs.Nearby.{IsAmid}
use Rattle.vx_cells.proofs.Indices.{number_below}
use Rattle.vx_cells.proofs.Nearby.{has_around}
use Rattle.vx_cells.proofs.frozen.Frozen.around.Goals as goal

pub sector_at-requires : goal.sector_at-requires
sector_at-requires c =
    let v = c.args.self.now.sizes in
    let p = c.args.p in
    let size = ap (λ (m : MapData). m.sizes) c.self.view_is in
    let inside = sym (c.inside.ensures ∙ ap (λ u. is_inside u p) size) ∙ c.if-not-inside.false in
    subst (λ n. n < sector_count v) (sym (c.sector_holding.ensures ∙ ap (λ u. sector_number u p) size))
    (number_below v p c.soundness.ensures.valid inside)

pub returns : goal.returns
returns c =
    let m = c.args.self.now in
    let p = c.args.p in
    let size = ap (λ (m : MapData). m.sizes) c.self.view_is in
    let inside = sym (c.inside.ensures ∙ ap (λ u. is_inside u p) size) ∙ c.if-not-inside.false in
    has_around m p c.soundness.ensures inside
    (subst (λ u. IsAmid u p) size (c.is_amid.ensures c.if-not-is_amid.false))
    c.sector_at.result.now
    (subst (λ n. slice_get m.sectors n ≡ Some c.sector_at.result.now) (c.sector_holding.ensures ∙ ap (λ u. sector_number u p) size)
    c.sector_at.ensures)
