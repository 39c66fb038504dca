use Rattle.std.proofs.Common.{◌≡◌, ◌<◌, map, get_or, refl, ap, subst, sym, ◌∙◌, arith, rules}
use Rattle.std.specs.List.{All}
use Rattle.std.proofs.lemmas.Bool.{false≢true}
use Rattle.std.proofs.lemmas.List.{length-map, get_or-map, take_all}
use Rattle.vx_record.specs.Settling.{CallerData}
use Rattle.vx_record.proofs.settling.are_below.Goals as goal

pub returns-then-seats-seat : goal.returns-then-seats-seat
returns-then-seats-seat g c =
    let caller = g.P.Caller.caller in
    let callers = c.args.callers.now in
    let k = c.loop-caller.caller-index in
    let here : get_or (map caller callers) k (caller c.caller-item.result) ≡ caller c.caller-item.result =
    get_or-map caller callers k c.caller-item.result _ c.loop-caller-test.true ∙ ap caller (sym c.caller-item.is) in (
      λ no. absurd (false≢true no),
      λ all.
          let below = all k (caller c.caller-item.result) (omega (arith, c.loop-caller-test.true, length-map callers caller)) in
          absurd (omega (arith, below, ap (λ (d : CallerData). d.seat) here, c.seat.ensures, c.if-seats-seat.true)),
    )

pub returns : goal.returns
returns g c =
    let caller = g.P.Caller.caller in (
      λ yes. subst (λ callers. All (λ (d : CallerData). d.seat < c.args.seats) (map caller callers))
          (take_all c.loop-caller.caller-index c.args.callers.now (search rules)) c.loop-caller.invariant,
      λ all. refl,
    )
