use Rattle.std.proofs.Common.{ℕ, ◌+◌, ◌<◌, [], length, map, get_or, set, below_more, sym, subst, arith}
use Rattle.std.specs.List.{All}
use Rattle.std.proofs.lemmas.List.{length-map, map-set, get_or-set_same, get_or-set_other}
use Rattle.vx_record.specs.Rests.{lists_in}
use Rattle.vx_record.specs.declared.call_table.CallTable.{CallTable}
use Rattle.vx_record.proofs.Behind.{IsPut}
use Rattle.vx_record.proofs.settling.put_calls.Goals as goal

pub loop-at-preserved : goal.loop-at-preserved
loop-at-preserved g c =
    let cs = map g.P.Caller.caller c.args.callers.now in
    let first = c.args.first in
    let n = c.loop-at.at in
    let new : CallTable = record { calls = c.calls_at.result } in
    let tables = map lists_in c.loop-at.tables in
    let now = set tables n (lists_in new) in
    let room : n < length tables =
    omega (arith, c.loop-at-test.true, c.loop-at.auto.tables, length-map c.loop-at.tables lists_in) in
    let earlier : (at : ℕ) → at < n → All (IsPut (get_or now at []) (first + at)) cs =
    λ at before.
    subst (λ table. All (IsPut table (first + at)) cs)
    (sym (get_or-set_other tables n at (lists_in new) [] (omega (arith, before))))
    (c.loop-at.invariant at before) in
    let here : All (IsPut (get_or now n []) (first + n)) cs =
    subst (λ table. All (IsPut table (first + n)) cs)
    (sym (get_or-set_same tables n (lists_in new) [] room)) c.calls_at.ensures in
    λ at below.
    subst (λ ts. All (IsPut (get_or ts at []) (first + at)) cs)
    (sym (map-set lists_in c.loop-at.tables n new))
    (below_more (λ at. All (IsPut (get_or now at []) (first + at)) cs) n earlier here at below)
