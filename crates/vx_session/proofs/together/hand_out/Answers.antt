use Rattle.std.proofs.Common.{length, map, sym, ap, ◌∙◌}
use Rattle.vx_session.specs.Blocks.{player_data}
use Rattle.vx_session.specs.Sessions.{pass_in}
use Rattle.vx_session.proofs.Asking.{passes_stay, one_asked}
use Rattle.vx_session.proofs.Told.{seat_there}
use Rattle.vx_session.proofs.together.hand_out.Goals as goal

pub returns-in_err-ask-clause-passes : goal.returns-in_err-ask-clause-passes
returns-in_err-ask-clause-passes g c =
    let here = c.index-players-from.is in
    let there = seat_there c.args.requests.now c.loop-request.request-index _ c.from.result (length c.args.players.now) (length c.loop-request.players)
    c.requires.named c.loop-request.auto.players c.loop-request-test.true c.from.ensures in
    passes_stay player_data (map player_data c.args.players.now) c.loop-request.players c.from.result c.index-players-from.result c.ask.new.self
    c.loop-request.invariant.0 there here (ap pass_in (c.in_err-ask.ensures.pass ∙ ap (λ p. p.pass) (sym here)))

pub loop-request-preserved : goal.loop-request-preserved
loop-request-preserved g c =
    let was = c.loop-request.invariant in
    let here = c.index-players-from.is in
    let there = seat_there c.args.requests.now c.loop-request.request-index _ c.from.result (length c.args.players.now) (length c.loop-request.players)
    c.requires.named c.loop-request.auto.players c.loop-request-test.true c.from.ensures in (
      passes_stay player_data (map player_data c.args.players.now) c.loop-request.players c.from.result c.index-players-from.result c.ask.new.self
          was.0 there here (ap pass_in (c.in_ok-ask.ensures.pass ∙ ap (λ p. p.pass) (sym here))),
      one_asked player_data c.args.requests.now c.loop-request.request-index _ c.loop-request.players c.from.result c.index-players-from.result c.ask.new.self
          c.loop-request-test.true c.from.ensures was.1 there here c.in_ok-ask.ensures.asked,
    )
