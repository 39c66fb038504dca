use Rattle.std.proofs.Common.{◌++◌, ◌∷◌, [], ap, ◌∙◌}
use Rattle.vx_session.proofs.Requested.{carried_more}
use Rattle.vx_session.proofs.player.carry_out.Goals as goal

pub loop-request-preserved : goal.loop-request-preserved
loop-request-preserved g c =
    let was = c.loop-request.invariant in
    let told = c.push_back_reserved.ensures.items ∙ ap (λ xs. xs ++ c.in_ok-answer.answer ∷ []) c.reserve.ensures.items in
    let more = carried_more c.args.bounds.now c.args.asked.now c.loop-request.request-index _ c.loop-request.answers.items c.push_back_reserved.new.self.items c.in_ok-answer.answer
    c.args.pass.now.lists c.loop-request.pass.lists c.called.new.pass.lists c.loop-request-test.true was.1 was.2 told c.in_ok-answer.ensures.called in
    (c.called.ensures.seat ∙ was.0, more.0, more.1)
