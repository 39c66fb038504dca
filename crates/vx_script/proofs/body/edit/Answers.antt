use Rattle.std.proofs.Common.{ap}
use Rattle.std.proofs.lemmas.Result.{on_ok_weaker}
use Rattle.vx_policy.specs.Asked.{asked}
use Rattle.vx_record.specs.Chronicles.{ChronicleData}
use Rattle.vx_script.proofs.Lines.{edit_done}
use Rattle.vx_script.proofs.body.edit.Goals as goal

pub returns-clause-done : goal.returns-clause-done
returns-clause-done g c =
    let told = c.in_ok-answer.ensures in
    on_ok_weaker c.write_edit.result
    (edit_done g.A.Naming.first c.args.session.now c.edit.new.self (g.W.Write.contents c.args.writer.now) (g.W.Write.contents c.write_edit.new.writer)
    (ap (λ (chronicle : ChronicleData). chronicle.opening) c.edit.ensures.opening) (asked c.args.edit) c.in_ok-answer.answer told.accepted told.refused)
    c.write_edit.ensures.ok
