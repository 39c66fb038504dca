use Rattle.std.proofs.Common.{inr, ap, ◌∙◌, sym, subst, arith}
use Rattle.vx_cells.specs.SectorCells.{SectorCells}
use Rattle.vx_cells.proofs.MapLemmas.{placed_at}
use Rattle.vx_sector.specs.SectorData.{SectorData}
use Rattle.vx_sector.specs.Windows.{count_of, renewed}
use Rattle.vx_keeper.specs.Keepers.{KeeperData}
use Rattle.vx_keeper.specs.Marks.{AreMarks, IsPartOf, IsQuietAt}
use Rattle.vx_keeper.proofs.Giving.{mark_fits}
use Rattle.vx_keeper.proofs.Marking.{count_renewed, number_renewed, part_begun}
use Rattle.vx_keeper.proofs.keeper.Keeper.renew.Goals as goal

pub renew-requires-clause-of : goal.renew-requires-clause-of
renew-requires-clause-of g c =
    let world = c.args.self.now.world in
    let placed = placed_at world.map.sizes 0 c.args.at world.map.sectors c.args.fresh.cells c.soundness.ensures.whole.each c.requires.0 in
    let quiet = subst (λ (t : SectorData). IsQuietAt t c.args.at) c.sector.ensures (c.is_quiet.ensures c.if-not-is_quiet.false) in
    let size = ap (λ (s : SectorData). s.cells.bounds) (sym c.sector-else-not-is_quiet.ensures) ∙ c.has_size.ensures c.if-not-has_size.false ∙ c.bounds.ensures
    ∙ ap (λ (k : KeeperData). k.world.map.sizes) c.self.view_is in
    let number = ap (λ (d : SectorCells). d.sector) quiet.2 ∙ quiet.0 in
    (placed.0 ∙ sym size, omega (arith, placed.1, number))

pub renew-requires-clause-mark : goal.renew-requires-clause-mark
renew-requires-clause-mark g c =
    let world = c.args.self.now.world in
    let placed = placed_at world.map.sizes 0 c.args.at world.map.sectors c.args.fresh.cells c.soundness.ensures.whole.each c.requires.0 in
    mark_fits c.self.inside.marks world (renewed c.args.marked.now c.args.fresh) c.args.at c.of.result
    (subst (AreMarks c.self.inside.marks) (ap (λ (k : KeeperData). k.world) c.self.view_is) c.self.invariant.1)
    c.of.ensures (number_renewed c.args.marked.now c.args.fresh c.args.at (omega (arith, placed.1)))
    (part_begun world c.args.marked.now c.args.fresh c.args.at (omega (arith, placed.1)) c.requires)

pub returns-clause-count : goal.returns-clause-count
returns-clause-count g c = ap count_of c.renew.ensures ∙ count_renewed c.args.marked.now c.args.fresh

pub returns-clause-led : goal.returns-clause-led
returns-clause-led g c =
    let world = c.args.self.now.world in
    let placed = placed_at world.map.sizes 0 c.args.at world.map.sectors c.args.fresh.cells c.soundness.ensures.whole.each c.requires.0 in
    inr (subst (IsPartOf world) (sym c.renew.ensures)
    (part_begun world c.args.marked.now c.args.fresh c.args.at (omega (arith, placed.1)) c.requires))
