use Rattle.std.proofs.Common.{◌≡◌, ◌<◌, ◌+◌, [], length, map, take, get_or, set, ap, subst, sym, ◌∙◌, arith}
use Rattle.std.specs.List.{All}
use Rattle.std.proofs.lemmas.List.{map-set, length-map, length-set, get_or-map, take_all}
use Rattle.vx_record.specs.Settling.{CallerData}
use Rattle.vx_windows.specs.declared.limits.TheConstants.{MAX_PLAYERS}
use Rattle.vx_record.proofs.Behind.{IsPut, put_more}
use Rattle.vx_record.proofs.settling.calls_at.Goals as goal

pub bounds-table-from : goal.bounds-table-from
bounds-table-from g c =
    let caller = g.P.Caller.caller in
    let callers = c.args.callers.now in
    let k = c.loop-caller.caller-index in
    let item = c.caller-item.result in
    let here : get_or (map caller callers) k (caller item) ≡ caller item =
    get_or-map caller callers k item _ c.loop-caller-test.true ∙ ap caller (sym c.caller-item.is) in
    let below = c.requires.once.only k (caller item)
    (omega (arith, c.loop-caller-test.true, length-map callers caller)) in
    omega (arith, below, ap (λ (d : CallerData). d.seat) here, c.seat.ensures, c.from.ensures, c.requires.seats)

pub loop-caller-preserved : goal.loop-caller-preserved
loop-caller-preserved g c =
    let caller = g.P.Caller.caller in
    let callers = map caller c.args.callers.now in
    let k = c.loop-caller.caller-index in
    let item : CallerData = caller c.caller-item.result in
    let at = c.args.at in
    let table = map (λ calls. calls.now) c.loop-caller.table in
    let within : k < length callers =
    omega (arith, c.loop-caller-test.true, length-map c.args.callers.now caller) in
    let here : item ≡ get_or callers k item =
    sym (get_or-map caller c.args.callers.now k c.caller-item.result item c.loop-caller-test.true
    ∙ ap caller (sym c.caller-item.is)) in
    let below : item.seat < c.args.seats =
    subst (λ (d : CallerData). d.seat < c.args.seats) (sym here) (c.requires.once.only k item within) in
    let long : length table ≡ MAX_PLAYERS =
    length-map c.loop-caller.table (λ calls. calls.now) ∙ c.loop-caller.invariant.0 in
    let room : item.seat < length table = omega (arith, below, long, c.requires.seats) in
    let seat : c.from.result ≡ item.seat = c.from.ensures ∙ c.seat.ensures in
    let calls : c.calls.result.now ≡ get_or item.lists at [] =
    c.calls.ensures ∙ ap (λ lists. get_or lists at []) c.lists.ensures in
    let more = put_more callers table at k item within here (c.requires.once.once item.seat below) room
    c.loop-caller.invariant.1 in
    let same : map (λ calls. calls.now) (set c.loop-caller.table c.from.result c.calls.result)
    ≡ set table item.seat (get_or item.lists at []) =
    map-set (λ calls. calls.now) c.loop-caller.table c.from.result c.calls.result
    ∙ ap (λ n. set table n c.calls.result.now) seat ∙ ap (set table item.seat) calls in (
      length-set c.loop-caller.table c.from.result c.calls.result ∙ c.loop-caller.invariant.0,
      subst (λ t. All (IsPut t at) (take (k + 1) callers)) (sym same) more,
    )

pub returns : goal.returns
returns g c =
    let callers = map g.P.Caller.caller c.args.callers.now in
    let table = map (λ calls. calls.now) c.loop-caller.table in
    subst (All (IsPut table c.args.at)) (take_all c.loop-caller.caller-index callers
    (omega (arith, c.loop-caller-test.false, length-map c.args.callers.now g.P.Caller.caller)))
    c.loop-caller.invariant.1
