use Rattle.std.proofs.Common.{◌+◌, ◌<◌, length, map, subst, sym, ap, ◌∙◌}
use Rattle.std.proofs.lemmas.List.{length_push}
use Rattle.vx_session.specs.Blocks.{player_data}
use Rattle.vx_session.specs.Sessions.{pass_in}
use Rattle.vx_session.proofs.Told.{one_left, seat_there, turn_told}
use Rattle.vx_session.proofs.together.tell_all.Goals as goal

pub next_answer-requires : goal.next_answer-requires
next_answer-requires g c =
    let was = c.loop-request.invariant in
    let there = seat_there c.args.requests.now c.loop-request.request-index _ c.from.result (length c.args.players.now) (length c.loop-request.players)
    c.requires.named c.loop-request.auto.players c.loop-request-test.true c.from.ensures in
    subst (λ p. 0 < length p.answers.items) c.index-players-from.is
    (one_left player_data c.args.requests.now c.loop-request.request-index _ c.loop-request.answers.items
    (map player_data c.args.players.now) c.loop-request.players c.from.result c.index-players-from.result
    c.loop-request-test.true c.from.ensures was.0 c.requires.answered was.2 there c.index-players-from.is)

pub loop-request-preserved : goal.loop-request-preserved
loop-request-preserved g c =
    let was = c.loop-request.invariant in
    let items = c.push_reserved.ensures.items in
    let here = c.index-players-from.is in
    let there = seat_there c.args.requests.now c.loop-request.request-index _ c.from.result (length c.args.players.now) (length c.loop-request.players)
    c.requires.named c.loop-request.auto.players c.loop-request-test.true c.from.ensures in (
      ap length items ∙ length_push c.loop-request.answers.items c.next_answer.result ∙ ap (λ n. n + 1) was.0,
      rw c.push_reserved.ensures.capacity was.1,
      rw items
          (turn_told player_data c.args.requests.now c.loop-request.request-index _ c.loop-request.answers.items c.next_answer.result
          (map player_data c.args.players.now) c.loop-request.players c.from.result c.index-players-from.result c.next_answer.new.self
          c.loop-request-test.true c.from.ensures was.0 was.2 there here
          (ap pass_in (c.next_answer.ensures.pass ∙ ap (λ p. p.pass) (sym here)))
          (ap (λ p. p.answers.items) here ∙ c.next_answer.ensures.answer)),
    )
