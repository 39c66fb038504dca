use Rattle.std.proofs.Common.{map, sym, ap, subst, ◌∙◌}
use Rattle.std.proofs.lemmas.Result.{on_ok_weaker}
use Rattle.vx_geom.specs.Sizes.{AreSizes}
use Rattle.vx_cells.specs.SectorCells.{SectorCells}
use Rattle.vx_sector.specs.SectorData.{entry_of}
use Rattle.vx_sector.specs.Windows.{HoldsPlaces}
use Rattle.vx_sector.proofs.Places.{after_bounds, after_sector, places_too, window_places}
use Rattle.vx_windows.specs.Writing.{AreSpared}
use Rattle.vx_windows.proofs.Sparing.{spared_all}
use Rattle.vx_windows.proofs.writes.add_written.Goals as goal

pub add_changed-requires-clause-base : goal.add_changed-requires-clause-base
add_changed-requires-clause-base c =
    let s = c.args.sector.now in
    subst (λ b. HoldsPlaces b (map entry_of c.entries.result.now)) (sym c.base-2.ensures)
    (subst (HoldsPlaces s.base) (sym c.entries.ensures.entries) (window_places s.version.policy s.base s.entries c.entries.ensures.window))

pub add_changed-requires-clause-cells : goal.add_changed-requires-clause-cells
add_changed-requires-clause-cells c =
    let s = c.args.sector.now in
    subst (λ b. HoldsPlaces b (map entry_of c.entries.result.now)) (sym c.cells-2.ensures.cells)
    (subst (HoldsPlaces s.cells) (sym c.entries.ensures.entries)
    (places_too s.base s.cells s.entries
    (ap (λ (d : SectorCells). d.bounds) c.cells.ensures.after ∙ after_bounds s.base s.entries)
    (ap (λ (d : SectorCells). d.sector) c.cells.ensures.after ∙ after_sector s.base s.entries)
    (window_places s.version.policy s.base s.entries c.entries.ensures.window)))

pub returns : goal.returns
returns c =
    let s = c.args.sector.now in
    let entries = map entry_of c.entries.result.now in
    let sizes : AreSizes s.cells.bounds =
    subst AreSizes (c.bounds.ensures ∙ ap (λ (d : SectorCells). d.bounds) c.cells.ensures.cells) c.soundness.ensures in
    on_ok_weaker c.add_changed.result
    (λ added p none.
    let known = added p none in (
      known.0,
      spared_all p s entries c.entries.ensures.entries c.entries.ensures.window c.cells.ensures.after sizes
          (subst (λ b. AreSpared p b s.cells entries) c.base-2.ensures
          (subst (λ d. AreSpared p c.base-2.result.now d entries) c.cells-2.ensures.cells known.1)),
    ))
    c.add_changed.ensures
