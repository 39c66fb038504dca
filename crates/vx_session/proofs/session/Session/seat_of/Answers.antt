use Rattle.std.proofs.Common.{◌<◌, Some, length, arith, sym, ap, ◌∙◌}
use Rattle.vx_play.specs.Plays.{number_from}
use Rattle.vx_session.specs.Sessions.{SessionData, names_of, player_in}
use Rattle.vx_session.proofs.Passing.{pass_there, number_is}
use Rattle.vx_session.proofs.session.Session.seat_of.Goals as goal

pub index-requires : goal.index-requires
index-requires g c =
    let named : c.in_ok-place.place < length c.self.inside.keeper.chronicle.opening.names =
    omega (arith, c.in_ok-place.ensures.within, ap length c.self.invariant.2) in
    let below = pass_there player_in _ _ _ _ _ _ c.self.invariant.0 named in
    omega (arith, below, c.self.inside.players.ok.0)

pub returns : goal.returns
returns g c =
    let name = c.args.name.now.text.bytes in
    let named : c.in_ok-place.place < length c.self.inside.keeper.chronicle.opening.names =
    omega (arith, c.in_ok-place.ensures.within, ap length c.self.invariant.2) in
    let number = number_is player_in _ _ _ _ _ c.in_ok-place.place c.index.result.now c.self.invariant.0 named c.index.ensures in
    ap Some (ap (λ s. s.number) c.seat.ensures ∙ number)
    ∙ sym c.in_ok-place.was ∙ c.number_of.ensures.value
    ∙ ap (λ ns. number_from 0 ns name) c.self.invariant.2
    ∙ ap (λ (s : SessionData). number_from 0 (names_of s) name) c.self.view_is
