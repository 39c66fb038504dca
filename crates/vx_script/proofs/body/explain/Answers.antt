use Rattle.std.proofs.Common.{◌≡◌, true, ap, sym, ◌∙◌}
use Rattle.std.proofs.lemmas.Result.{on_ok_weaker}
use Rattle.vx_play.specs.Plays.{is_named}
use Rattle.vx_session.specs.Sessions.{names_of, opening_of}
use Rattle.vx_script.proofs.Lines.{explain_done}
use Rattle.vx_script.proofs.body.explain.Goals as goal

pub returns-clause-done : goal.returns-clause-done
returns-clause-done g c =
    let told = c.in_ok-verdict.ensures.answer in
    let named : is_named (names_of c.args.session.now) c.args.name.text.bytes ≡ true = sym c.has_player.ensures ∙ c.if-not-has_player.false in
    on_ok_weaker c.write_verdict.result
    (explain_done g.A.Naming.first c.args.session.now c.explain.new.self (g.W.Write.contents c.args.writer.now) (g.W.Write.contents c.write_verdict.new.writer) (ap opening_of c.explain.ensures.kept)
    c.args.name.text.bytes c.args.action c.args.p c.in_ok-verdict.verdict c.in_ok-verdict.count named c.explain.ensures.kept told.0 told.1)
    c.write_verdict.ensures.ok
