use Rattle.std.proofs.lemmas.Result.{on_ok_weaker}
use Rattle.vx_script.proofs.Lines.{tick_done}
use Rattle.vx_script.proofs.body.tick.Goals as goal

pub returns-clause-done : goal.returns-clause-done
returns-clause-done g c =
    on_ok_weaker c.tell.result
    (tick_done g.A.Naming.first c.args.session.now c.tick.new.self (g.W.Write.contents c.args.writer.now) (g.W.Write.contents c.tell.new.writer) c.tick.ensures.opening
    c.in_ok-fates.fates.items c.ticks.result c.in_ok-fates.ensures.ticked c.ticks.ensures c.in_ok-fates.ensures.number)
    (rw c.deref.ensures.value at c.tell.ensures.ok)
