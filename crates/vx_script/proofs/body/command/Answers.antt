use Rattle.std.proofs.Common.{◌≡◌, ◌<◌, Some, length, sym, ap, ◌∙◌, subst}
use Rattle.std.proofs.lemmas.Option.{slice_get_within}
use Rattle.std.proofs.lemmas.Result.{on_ok_weaker}
use Rattle.vx_play.specs.Plays.{number_from}
use Rattle.vx_session.specs.Sessions.{names_of}
use Rattle.vx_script.proofs.Lines.{command_done, seated}
use Rattle.vx_script.proofs.body.command.Goals as goal

pub command-requires : goal.command-requires
command-requires g c =
    let names = names_of c.args.session.now in
    let name = c.args.name.now.text.bytes in
    let found : number_from 0 names name ≡ Some c.in-Some.seat = sym c.seat_of.ensures ∙ c.in-Some.is in
    subst (λ n. n < length names) (sym c.from.ensures) (slice_get_within names c.in-Some.seat name (seated names name c.in-Some.seat found))

pub returns-clause-done : goal.returns-clause-done
returns-clause-done g c =
    let names = names_of c.args.session.now in
    let name = c.args.name.now.text.bytes in
    let found : number_from 0 names name ≡ Some c.from.result = sym c.seat_of.ensures ∙ c.in-Some.is ∙ ap Some (sym c.from.ensures) in
    on_ok_weaker c.write_answer.result
    (command_done g.A.Naming.first c.args.session.now c.command.new.self (g.W.Write.contents c.args.writer.now) (g.W.Write.contents c.write_answer.new.writer) c.command.ensures.stays.opening
    name c.args.cmd c.from.result c.in_ok-answer.answer found (c.in_ok-answer.ensures.called name (seated names name c.from.result found)))
    c.write_answer.ensures.ok
