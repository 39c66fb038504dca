use Rattle.vx_sector.specs.Commands.{place_of}
use Rattle.vx_session.proofs.Recorded.{called_at}
use Rattle.vx_session.proofs.calling.called.Goals as goal

pub returns-clause-called : goal.returns-clause-called
returns-clause-called g c =
    let submitted = c.submit_in-answer.ensures in
    let world = c.args.world.now in
    let pass = c.args.pass.now in
    let enough = c.shortage.ensures.enough c.in_default.is in
    called_at c.args.bounds.now world.bounds g.A.Places.all (place_of c.args.cmd.now) pass.lists c.submit_in-answer.new.pass.lists c.args.cmd.now c.submit_in-answer.result
    c.soundness.ensures c.requires.bounds world.divided pass.all_here enough.0 enough.1 submitted.outside
    (λ yes_. let found = submitted.recorded yes_ in (found.0, found.1, found.2)) (λ none. (submitted.unrecorded none).0)
