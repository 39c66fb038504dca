use Rattle.std.proofs.Common.{◌≡◌, ◌<◌, Some, length, sym, ◌∙◌, subst}
use Rattle.std.specs.List.{All}
use Rattle.std.proofs.lemmas.List.Elements.{All-push}
use Rattle.std.proofs.lemmas.Option.{slice_get_within}
use Rattle.vx_play.specs.Plays.{number_from}
use Rattle.vx_session.specs.Sessions.{names_of}
use Rattle.vx_session.specs.declared.request.Request.{Request}
use Rattle.vx_script.proofs.Lines.{seated}
use Rattle.vx_script.proofs.block.ask.Goals as goal

pub returns-clause-seated : goal.returns-clause-seated
returns-clause-seated g c =
    let names = names_of c.args.session.now in
    let name = c.args.name.now.text.bytes in
    let Below : Request → Type 0 = λ request. request.seat < length names in
    let found : number_from 0 names name ≡ Some c.in-Some.seat = sym c.seat_of.ensures ∙ c.in-Some.is in
    let below : c.in-Some.seat < length names = slice_get_within names c.in-Some.seat name (seated names name c.in-Some.seat found) in
    subst (All Below) (sym c.push_reserved.ensures.items)
    (All-push Below c.reserve.new.self.items (record { seat = c.in-Some.seat; cmd = c.args.cmd })
    (subst (All Below) (sym c.reserve.ensures.items) c.requires) below)
