use Rattle.std.proofs.Common.{◌+◌, [], length, map, refl, subst, sym, ap, ◌∙◌}
use Rattle.std.proofs.lemmas.List.{length_push}
use Rattle.vx_sector.specs.SectorData.{seat_of}
use Rattle.vx_session.specs.Blocks.{AreCarriedOut}
use Rattle.vx_session.specs.Sessions.{player_in}
use Rattle.vx_session.proofs.Carried.{none_carried, seat_stays, turn_carried}
use Rattle.vx_session.proofs.Told.{seat_there}
use Rattle.vx_session.proofs.together.answer_each.Goals as goal

pub loop-request-init : goal.loop-request-init
loop-request-init g c =
    let passes = map player_in c.args.players.now in (
      ap length c.requires.none,
      c.requires.room,
      refl,
      subst (λ answers. AreCarriedOut c.args.bounds.now [] answers passes passes) (sym c.requires.none)
          (none_carried c.args.bounds.now passes),
      refl,
    )

pub returns-in_err-answer-clause-seats : goal.returns-in_err-answer-clause-seats
returns-in_err-answer-clause-seats g c =
    let here = c.index-players-from.is in
    seat_stays (λ player. (player_in player).seat) _ c.loop-request.players c.from.result c.index-players-from.result _
    c.loop-request.invariant.2 here (ap seat_of (c.called_alone.ensures.seat ∙ ap (λ p. p.pass.seat) (sym here)))

pub loop-request-preserved : goal.loop-request-preserved
loop-request-preserved g c =
    let was = c.loop-request.invariant in
    let items = c.push_reserved.ensures.items in
    let here = c.index-players-from.is in
    let there = seat_there c.args.requests.now c.loop-request.request-index _ c.from.result (length c.args.players.now) (length c.loop-request.players)
    c.requires.named c.loop-request.auto.players c.loop-request-test.true c.from.ensures in (
      ap length items ∙ length_push c.loop-request.answers.items c.in_ok-answer.answer ∙ ap (λ n. n + 1) was.0,
      rw c.push_reserved.ensures.capacity was.1,
      seat_stays (λ player. (player_in player).seat) _ c.loop-request.players c.from.result c.index-players-from.result _
          was.2 here (ap seat_of (c.called_alone.ensures.seat ∙ ap (λ p. p.pass.seat) (sym here))),
      rw items
          (turn_carried player_in c.args.bounds.now c.args.requests.now c.loop-request.request-index _ c.loop-request.answers.items
          c.in_ok-answer.answer (map player_in c.args.players.now) c.loop-request.players c.from.result c.index-players-from.result _
          c.loop-request-test.true c.from.ensures was.0 was.3 there here
          c.in_ok-answer.ensures.called),
      c.called_alone.ensures.bounds ∙ was.4,
    )
