use Rattle.std.proofs.Common.{[], ◌∷◌, Some, refl, ap, sym, ◌∙◌, subst, option_map}
use Rattle.std.proofs.KnownBytes.{Appends-nil}
use Rattle.vx_grammar.specs.ScriptLines.{said}
use Rattle.vx_script.specs.Sessions.{HasDone}
use Rattle.vx_script.specs.Stages.{Outside}
use Rattle.vx_script.proofs.Lines.{nothing_done, together_done}
use Rattle.vx_script.proofs.body.take_outside.Goals as goal

pub returns-in-Some-Skipped-clause-done : goal.returns-in-Some-Skipped-clause-done
returns-in-Some-Skipped-clause-done g c =
    let s = c.args.session.now in
    let contents = g.W.Write.contents c.args.writer.now in
    subst (λ line. HasDone g.A.Naming.first s s Outside (option_map said line ∷ []) contents contents) (sym (c.in-Some-Skipped.is ∙ ap Some c.in-Some-Skipped.field-0-is))
    (nothing_done g.A.Naming.first s s contents contents refl refl (Appends-nil contents))

pub returns-in-Some-Together-clause-done : goal.returns-in-Some-Together-clause-done
returns-in-Some-Together-clause-done g c =
    let s = c.args.session.now in
    let contents = g.W.Write.contents c.args.writer.now in
    subst (λ line. HasDone g.A.Naming.first s s Outside (option_map said line ∷ []) contents contents) (sym (c.in-Some-Together.is ∙ ap Some c.in-Some-Together.field-0-is))
    (together_done g.A.Naming.first s s contents contents refl refl (Appends-nil contents))
