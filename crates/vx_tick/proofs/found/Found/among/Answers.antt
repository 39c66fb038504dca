use Rattle.std.proofs.Common.{◌<◌, ◌++◌, sym, ap, subst, ◌∙◌}
use Rattle.vx_geom.specs.Sizes.{sector_count}
use Rattle.vx_tick.specs.Pieces.{changed_in, restless_in, restless_up_to}
use Rattle.vx_tick.specs.Ticks.{changed_up_to}
use Rattle.vx_tick.proofs.Turning.{changed_more, restless_more, all_numbers}
use Rattle.vx_tick.proofs.found.Found.among.Goals as goal

pub add_places-requires-clause-there : goal.add_places-requires-clause-there
add_places-requires-clause-there g c = subst (λ n. c.loop-number.number < n) (c.sectors-number-end.ensures ∙ ap sector_count c.bounds.ensures)
    c.loop-number-test.true

pub loop-number-preserved : goal.loop-number-preserved
loop-number-preserved g c =
    let m = c.args.map.now in
    let n = c.loop-number.number in
    record {
      changes = c.in_ok-add_places.ensures.changes ∙ ap (λ l. l ++ changed_in m n) c.loop-number.invariant.changes ∙ sym (changed_more m n);
      restless = c.in_ok-add_places.ensures.restless ∙ ap (λ l. l ++ restless_in m n) c.loop-number.invariant.restless ∙ sym (restless_more m n);
    }

pub by-requires-clause-changes : goal.by-requires-clause-changes
by-requires-clause-changes g c =
    c.loop-number.invariant.changes
    ∙ ap (changed_up_to c.args.map.now) (all_numbers c.loop-number.number _ _ _ c.loop-number-test.false c.loop-number.auto.number-end
    c.sectors-number-end.ensures c.bounds.ensures)

pub by-requires-clause-restless : goal.by-requires-clause-restless
by-requires-clause-restless g c =
    c.loop-number.invariant.restless
    ∙ ap (restless_up_to c.args.map.now) (all_numbers c.loop-number.number _ _ _ c.loop-number-test.false c.loop-number.auto.number-end
    c.sectors-number-end.ensures c.bounds.ensures)
