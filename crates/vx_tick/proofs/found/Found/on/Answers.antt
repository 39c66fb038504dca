use Rattle.std.proofs.Common.{◌<◌, ◌++◌, sym, ap, subst, ◌∙◌}
use Rattle.vx_geom.specs.Sizes.{sector_count}
use Rattle.vx_tick.specs.Pieces.{changed_in, restless_in, restless_up_to}
use Rattle.vx_tick.specs.Ticks.{changed_up_to}
use Rattle.vx_tick.proofs.Turning.{changed_more, restless_more, all_numbers}
use Rattle.vx_tick.proofs.found.Found.on.Goals as goal

pub add_sector-requires-clause-there : goal.add_sector-requires-clause-there
add_sector-requires-clause-there g c = subst (λ n. c.loop-sector.sector < n) (c.sectors-sector-end.ensures ∙ ap sector_count c.bounds.ensures)
    c.loop-sector-test.true

pub loop-sector-preserved : goal.loop-sector-preserved
loop-sector-preserved g c =
    let m = c.args.map.now in
    let n = c.loop-sector.sector in
    record {
      changes = c.in_ok-add_sector.ensures.changes ∙ ap (λ l. l ++ changed_in m n) c.loop-sector.invariant.changes ∙ sym (changed_more m n);
      restless = c.in_ok-add_sector.ensures.restless ∙ ap (λ l. l ++ restless_in m n) c.loop-sector.invariant.restless ∙ sym (restless_more m n);
    }

pub by-requires-clause-changes : goal.by-requires-clause-changes
by-requires-clause-changes g c =
    c.loop-sector.invariant.changes
    ∙ ap (changed_up_to c.args.map.now) (all_numbers c.loop-sector.sector _ _ _ c.loop-sector-test.false c.loop-sector.auto.sector-end
    c.sectors-sector-end.ensures c.bounds.ensures)

pub by-requires-clause-restless : goal.by-requires-clause-restless
by-requires-clause-restless g c =
    c.loop-sector.invariant.restless
    ∙ ap (restless_up_to c.args.map.now) (all_numbers c.loop-sector.sector _ _ _ c.loop-sector-test.false c.loop-sector.auto.sector-end
    c.sectors-sector-end.ensures c.bounds.ensures)
