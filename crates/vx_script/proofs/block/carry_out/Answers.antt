use Rattle.std.proofs.lemmas.Result.{on_ok_weaker}
use Rattle.vx_script.proofs.Blocks.{block_done}
use Rattle.vx_script.proofs.block.carry_out.Goals as goal

pub returns-clause-done : goal.returns-clause-done
returns-clause-done g c =
    let told = c.in_ok-answers.ensures in
    on_ok_weaker c.write_answers.result
    (block_done g.A.Naming.first c.args.session.now c.together.new.self c.args.asked.now c.in_ok-answers.answers.items (g.W.Write.contents c.args.writer.now) (g.W.Write.contents c.write_answers.new.writer)
    c.together.ensures.stays.opening told.each c.requires told.called)
    (rw c.deref.ensures.value at c.write_answers.ensures.ok)
