use Rattle.std.proofs.Common.{[], ◌∷◌, ◌++◌, take, sym, ap, ◌∙◌, subst, arith}
use Rattle.std.specs.List.{All}
use Rattle.std.proofs.lemmas.List.{take_more, take_all}
use Rattle.std.proofs.lemmas.List.Elements.{All-push}
use Rattle.std.proofs.lemmas.Option.{slice_get_within, get_or_from_slice_get}
use Rattle.vx_geom.specs.Sizes.{sector_count}
use Rattle.vx_cells.specs.SectorCells.{IsWhole}
use Rattle.vx_cells.proofs.frozen.Frozen.filling.Goals as goal

pub loop-sector-preserved : goal.loop-sector-preserved
loop-sector-preserved c =
    let all = c.args.self.now.sectors in
    let i = c.loop-sector.sector in
    let cells = c.sector_at.result.now in
    let found = c.sector_at.ensures in
    subst (All IsWhole)
    (sym (take_more all i cells (slice_get_within all i cells found)
    ∙ ap (λ last. take i all ++ (last ∷ [])) (get_or_from_slice_get all i cells cells found)))
    (All-push IsWhole (take i all) cells c.loop-sector.invariant c.soundness-in-loop-sector.ensures)

pub returns : goal.returns
returns c =
    let all = take_all c.loop-sector.sector c.args.self.now.sectors
    (omega (
      arith,
      c.loop-sector-test.false,
      c.loop-sector.auto.sector-end,
      c.soundness.ensures.all,
      c.sectors-sector-end.ensures,
      ap sector_count c.bounds.ensures,
    )) in
    record {
      map = c.soundness.ensures;
      each = subst (All IsWhole) all c.loop-sector.invariant;
    }
