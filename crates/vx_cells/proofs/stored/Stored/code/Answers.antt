use Rattle.std.proofs.Common.{◌≡◌, ◌<◌, length, get_or, unsigned_abs, refl, ap, ◌∙◌, arith}
use Rattle.std.proofs.lemmas.Int.{ints}
use Rattle.vx_geom.specs.Sizes.{index_in_sector}
use Rattle.vx_geom.proofs.SectorLemmas.{inside_at}
use Rattle.vx_store.specs.Codes.{cell_of}
use Rattle.vx_cells.proofs.Indices.{inside_from_holds, index_below}
use Rattle.vx_cells.proofs.Sectioned.{index_by_sides, layer_within}
use Rattle.vx_cells.proofs.StoredCells.{cell-stored}
use Rattle.vx_cells.proofs.stored.Stored.code.Goals as goal

pub at-requires : goal.at-requires
at-requires c =
    let s = c.self.inside in
    let held = rw (← c.self.view_is) at c.requires in
    let inside = inside_at s.bounds c.args.p (inside_from_holds _ c.args.p held) in
    let low : c.unsigned_abs-layer.result < s.bounds.h = omega (arith, ints, inside.y_is, inside.y_below, c.unsigned_abs-layer.ensures.value) in
    layer_within s.bounds (length s.store) _ c.soundness.ensures c.self.invariant.stored.whole low

pub returns-clause-cell : goal.returns-clause-cell
returns-clause-cell c =
    let s = c.self.inside in
    let p = c.args.p in
    let held = rw (← c.self.view_is) at c.requires in
    let is_inside = inside_from_holds _ p held in
    let inside = inside_at s.bounds p is_inside in
    let within = index_below s.bounds p c.soundness.ensures is_inside in
    let x : c.unsigned_abs-column.result ≡ unsigned_abs p.x = omega (arith, ints, inside.x_is, c.unsigned_abs-column.ensures.value) in
    let y : c.unsigned_abs-layer.result ≡ unsigned_abs p.y = omega (arith, ints, inside.y_is, c.unsigned_abs-layer.ensures.value) in
    let z : c.unsigned_abs-row.result ≡ unsigned_abs p.z = omega (arith, ints, inside.z_is, c.unsigned_abs-row.ensures.value) in
    let index = index_by_sides s.bounds p (length s.store) _ _ _ c.soundness.ensures c.self.invariant.stored.whole x y z in
    rw (← c.self.view_is) (ap cell_of (c.at.ensures ∙ ap (λ k. get_or s.store k 0) index)
    ∙ cell-stored s.bounds s.sector s.store s.chests c.self.invariant.stored p (index_in_sector s.bounds p) refl within)
