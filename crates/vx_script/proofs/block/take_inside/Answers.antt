use Rattle.std.proofs.Common.{◌≡◌, [], ◌∷◌, Some, sym, subst, option_map, rules}
use Rattle.std.proofs.KnownBytes.{Appends-nil}
use Rattle.std.proofs.lemmas.Result.{on_ok_weaker}
use Rattle.vx_grammar.specs.ScriptLines.{said, Nothing, Act}
use Rattle.vx_script.specs.Sessions.{HasDone}
use Rattle.vx_script.specs.Stages.{Inside}
use Rattle.vx_script.proofs.Blocks.{asked_more, skipped}
use Rattle.vx_script.proofs.block.take_inside.Goals as goal

pub returns-in-Some-Skipped-clause-done : goal.returns-in-Some-Skipped-clause-done
returns-in-Some-Skipped-clause-done g c =
    let s = c.args.session.now in
    let contents = g.W.Write.contents c.args.writer.now in
    let same : option_map said c.args.line ≡ Some Nothing = search rules in
    subst (λ line. HasDone g.A.Naming.first s s (Inside c.args.asked.items) (line ∷ []) contents contents) (sym same)
    (skipped g.A.Naming.first s c.args.asked.items contents contents (Appends-nil contents))

pub returns-in-Some-As-clause-done : goal.returns-in-Some-As-clause-done
returns-in-Some-As-clause-done g c =
    let s = c.args.session.now in
    let contents = g.W.Write.contents c.args.writer.now in
    let same : option_map said c.args.line ≡ Some (Act c.in-Some-As.name.text.bytes c.in-Some-As.cmd) = search rules in
    on_ok_weaker c.ask.result
    (λ stands. subst (λ line. HasDone g.A.Naming.first s s (Inside c.args.asked.items) (line ∷ []) contents contents) (sym same)
    (asked_more g.A.Naming.first s c.args.asked.items c.in-Some-As.name.text.bytes c.in-Some-As.cmd contents contents (Appends-nil contents) stands))
    c.ask.ensures.stands
