use Rattle.std.proofs.Common.{◌≡◌, arith}
use Rattle.vx_session.specs.Sessions.{edits_to}
use Rattle.vx_session.proofs.LastEdits.{all_seen}
use Rattle.vx_session.proofs.explaining.explained.Goals as goal

pub returns : goal.returns
returns g c =
    let edits = edits_to c.args.last.now in
    let answer = c.in_ok-verdict.ensures.answer in
    let all : edits ≡ c.explain.new.self =
    all_seen edits c.learn_all.new.view c.explain.new.self c.learn_all.ensures c.explain.ensures.later
    (omega (arith, answer.1, c.if-count-count_of.false, c.count_of.ensures)) in
    rw all (answer.0, answer.1)
