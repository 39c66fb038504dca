use Rattle.std.proofs.Common.{◌≡◌, ◌+◌, length, map, take, drop, subst, sym, ◌∙◌}
use Rattle.std.proofs.lemmas.List.{length-map}
use Rattle.vx_record.specs.Records.{tick_in}
use Rattle.vx_record.specs.Said.{closed_at}
use Rattle.vx_record.specs.Rests.{lists_in, AreAllBehind, IsAstrayAt}
use Rattle.vx_record.proofs.Fronts.{cut_at, taken_to}
use Rattle.vx_record.proofs.Tables.{tick_more, tick_astray}
use Rattle.vx_record.proofs.rests.take_closed.Goals as goal

pub returns-in-Some : goal.returns-in-Some
returns-in-Some c =
    let ticks = c.args.ticks.now in
    let k = c.loop-tick.tick-index in
    let tick = c.tick-item.result in
    let found = c.in-Some.found in
    let tables = map lists_in c.args.tables.now in
    let rests = map lists_in c.loop-tick.tables in
    let long : length rests ≡ length tables =
    length-map c.loop-tick.tables lists_in ∙ c.loop-tick.auto.tables
    ∙ sym (length-map c.args.tables.now lists_in) in
    subst (λ ts. IsAstrayAt c.args.seats c.args.first tables (λ s. closed_at s ts) found.0 found.1)
    (sym (cut_at tick_in ticks k tick c.loop-tick-test.true c.tick-item.is))
    (tick_astray c.args.seats c.args.first tables rests (map tick_in (take k ticks)) (tick_in tick)
    (map tick_in (drop (k + 1) ticks)) found.0 found.1 long c.loop-tick.invariant c.in-Some.ensures)

pub loop-tick-preserved : goal.loop-tick-preserved
loop-tick-preserved c =
    let ticks = c.args.ticks.now in
    let k = c.loop-tick.tick-index in
    let tick = c.tick-item.result in
    let tables = map lists_in c.args.tables.now in
    let rests = map lists_in c.loop-tick.tables in
    let left = map lists_in c.take_tick.new.tables in
    let long : length rests ≡ length tables =
    length-map c.loop-tick.tables lists_in ∙ c.loop-tick.auto.tables
    ∙ sym (length-map c.args.tables.now lists_in) in
    subst (λ ts. AreAllBehind c.args.seats c.args.first tables (λ s. closed_at s ts) left)
    (sym (taken_to tick_in ticks k tick c.loop-tick-test.true c.tick-item.is))
    (tick_more c.args.seats c.args.first tables rests left (map tick_in (take k ticks)) (tick_in tick)
    long c.loop-tick.invariant c.in_default.ensures)
