use Rattle.std.proofs.Common.{◌≡◌, ◌≢◌, ◌<◌, ◌+◌, [], length, map, get_or, sym, ap, cond, ◌∙◌, rules, arith}
use Rattle.std.proofs.lemmas.Bool.{eqb-true, eqb-false}
use Rattle.std.proofs.lemmas.Iterator.Consumers.{YieldsList-turn, YieldsList-from_enumerate}
use Rattle.std.proofs.lemmas.Iterator.Adapters.{YieldsList-from_vec}
use Rattle.std.proofs.lemmas.List.{length-map, length_push, nil_from_length}
use Rattle.std.proofs.lemmas.List.Sums.{count_by_more_yes, count_by_more_no, sum_by-take-le}
use Rattle.vx_sector.specs.SectorData.{entry_of}
use Rattle.vx_windows.specs.Sectors.{entries_in}
use Rattle.vx_record.specs.Kept.{is_busy, windows_kept}
use Rattle.vx_record.specs.declared.kept_window.KeptWindow.{KeptWindow}
use Rattle.vx_record.proofs.Keeping.{busy_one, at_turn, one_more, order_more, order_push, kept_none, kept_more}
use Rattle.vx_record.proofs.closed_windows.ClosedWindows.new.Goals as goal

pub push_reserved-requires : goal.push_reserved-requires
push_reserved-requires c =
    let windows = c.args.windows.items in
    let all = map entries_in windows in
    let n = length c.loop-sector.yielded in
    let entries = c.in-Some.entries in
    let turn = at_turn windows n c.in-Some.sector entries
    (YieldsList-turn (YieldsList-from_enumerate (YieldsList-from_vec windows (search rules) (search rules)) (search rules))
    c.loop-sector.yielded c.loop-sector.sector-iterator c.loop-sector.yielded_by c.next.result c.next.new.self
    (c.in-Some.sector, entries) c.in-Some.is c.next.ensures.steps) in
    let some : length entries.items ≢ 0 = grind (arith, eqb-false) in
    let busy = ap is_busy turn.2 ∙ busy_one entries.items some in
    let more = count_by_more_yes is_busy all n [] (omega (arith, turn.0, length-map windows entries_in)) busy in
    let most = sum_by-take-le (λ window. cond (is_busy window) 1 0) all (n + 1) in
    omega (arith, more, most, c.loop-sector.invariant.long, c.loop-sector.invariant.room)

pub loop-sector-preserved-then-not-is_empty : goal.loop-sector-preserved-then-not-is_empty
loop-sector-preserved-then-not-is_empty c =
    let windows = c.args.windows.items in
    let all = map entries_in windows in
    let n = length c.loop-sector.yielded in
    let kept = c.loop-sector.kept.items in
    let entries = c.in-Some.entries in
    let last : KeptWindow = record { sector = c.in-Some.sector; entries = entries } in
    let turn = at_turn windows n c.in-Some.sector entries
    (YieldsList-turn (YieldsList-from_enumerate (YieldsList-from_vec windows (search rules) (search rules)) (search rules))
    c.loop-sector.yielded c.loop-sector.sector-iterator c.loop-sector.yielded_by c.next.result c.next.new.self
    (c.in-Some.sector, entries) c.in-Some.is c.next.ensures.steps) in
    let within : n < length all = omega (arith, turn.0, length-map windows entries_in) in
    let some : length entries.items ≢ 0 = grind (arith, eqb-false) in
    let busy = ap is_busy turn.2 ∙ busy_one entries.items some in
    let before = c.loop-sector.invariant in
    let longer = length_push c.loop-sector.yielded (c.in-Some.sector, entries) in record {
      so_far = rw (c.push_reserved.ensures.items, longer) (kept_more n kept last before.in_order.1 turn.1
          ∙ one_more all (windows_kept n kept) n (entries_in entries) within turn.2 before.so_far);
      in_order = rw (c.push_reserved.ensures.items, longer) (order_push n kept last before.in_order turn.1);
      long = rw longer (c.push_reserved.ensures.len ∙ ap (λ k. k + 1) before.long ∙ sym (count_by_more_yes is_busy all n [] within busy));
      room = rw c.push_reserved.ensures.capacity before.room;
    }

pub loop-sector-preserved : goal.loop-sector-preserved
loop-sector-preserved c =
    let windows = c.args.windows.items in
    let all = map entries_in windows in
    let n = length c.loop-sector.yielded in
    let kept = c.loop-sector.kept.items in
    let entries = c.in-Some.entries in
    let turn = at_turn windows n c.in-Some.sector entries
    (YieldsList-turn (YieldsList-from_enumerate (YieldsList-from_vec windows (search rules) (search rules)) (search rules))
    c.loop-sector.yielded c.loop-sector.sector-iterator c.loop-sector.yielded_by c.next.result c.next.new.self
    (c.in-Some.sector, entries) c.in-Some.is c.next.ensures.steps) in
    let within : n < length all = omega (arith, turn.0, length-map windows entries_in) in
    let none : length entries.items ≡ 0 = grind (arith, eqb-true) in
    let empty : get_or all n [] ≡ [] = turn.2 ∙ ap (map entry_of) (nil_from_length entries.items none) in
    let before = c.loop-sector.invariant in
    let longer = length_push c.loop-sector.yielded (c.in-Some.sector, entries) in record {
      so_far = rw longer (kept_none n kept before.in_order.1 ∙ one_more all (windows_kept n kept) n [] within empty before.so_far);
      in_order = rw longer (order_more n kept before.in_order);
      long = rw longer (before.long ∙ sym (count_by_more_no is_busy all n [] within (ap is_busy empty)));
      room = before.room;
    }
