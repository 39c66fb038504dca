use Rattle.std.proofs.Common.{◌≡◌, ◌≢◌, ◌++◌, List, map, take, drop, ap, subst, sym, rules, ◌+◌, ◌∙◌}
use Rattle.std.proofs.lemmas.Bool.{false≢true}
use Rattle.std.proofs.lemmas.List.{take_all}
use Rattle.vx_sector.specs.SectorData.{entry_of}
use Rattle.vx_record.specs.Records.{tick_in}
use Rattle.vx_record.specs.Said.{calls_of, window_at, closed_at, said_of}
use Rattle.vx_record.specs.declared.call.Call.{Call}
use Rattle.vx_record.proofs.Fronts.{cut_at, taken_to, closed_more, goes_on, stops_at, stops_last}
use Rattle.vx_record.proofs.saying.says.Goals as goal

pub returns-in_default : goal.returns-in_default
returns-in_default c =
    let ticks = c.args.ticks.now in
    let index = c.loop-tick.tick-index in
    let tick = c.tick-item.result in
    let seat = c.args.seat in
    let window = map entry_of c.args.window.now in
    let rest = c.loop-tick.rest.now in
    let fails : (m : List Call) → rest ≢ calls_of seat (window_at c.args.at (tick_in tick)) ++ m =
    subst (λ es. (m : List Call) → rest ≢ calls_of seat es ++ m) c.window_of.ensures c.in_default.ensures in (
      λ no. absurd (false≢true no),
      λ same. absurd (stops_at seat c.args.at (map tick_in (take index ticks)) (tick_in tick)
          (map tick_in (drop (index + 1) ticks)) window c.args.calls.now rest c.loop-tick.invariant fails
          (same ∙ ap (λ ts. said_of seat c.args.at ts window) (cut_at tick_in ticks index tick (search rules) c.tick-item.is))),
    )

pub loop-tick-preserved : goal.loop-tick-preserved
loop-tick-preserved c =
    let ticks = c.args.ticks.now in
    let index = c.loop-tick.tick-index in
    let tick = c.tick-item.result in
    let seat = c.args.seat in
    let at = c.args.at in
    let others = c.in-Some.others.now in
    let before = map tick_in (take index ticks) in
    goes_on seat (closed_at at before) (window_at at (tick_in tick)) c.args.calls.now c.loop-tick.rest.now others
    c.loop-tick.invariant (c.in-Some.ensures ∙ ap (λ es. calls_of seat es ++ others) c.window_of.ensures)
    ∙ ap (λ es. calls_of seat es ++ others)
    (sym (closed_more at before (tick_in tick)) ∙ ap (closed_at at) (sym (taken_to tick_in ticks index tick (search rules) c.tick-item.is)))

pub returns-in-None : goal.returns-in-None
returns-in-None c =
    let ticks = c.args.ticks.now in
    let seat = c.args.seat in
    let at = c.args.at in
    let begun = subst (λ ts. c.args.calls.now ≡ calls_of seat (closed_at at (map tick_in ts)) ++ c.loop-tick.rest.now)
    (take_all c.loop-tick.tick-index ticks (search rules)) c.loop-tick.invariant in (
      λ no. absurd (false≢true no),
      λ same. absurd (stops_last seat (closed_at at (map tick_in ticks)) (map entry_of c.args.window.now) c.args.calls.now
          c.loop-tick.rest.now begun c.in-None.ensures same),
    )
