use Rattle.std.proofs.Common.{◌<◌, length, arith, refl, sym, ap, ◌∙◌, subst}
use Rattle.vx_sector.specs.SectorData.{seat_of}
use Rattle.vx_audit.specs.declared.mark.Mark.TheVariants as mark
use Rattle.vx_session.specs.Sessions.{SessionData, names_of, edits_to}
use Rattle.vx_session.proofs.Passing.{pass_there, session_stays, unchanged, called_by, on_error}
use Rattle.vx_session.proofs.session.Session.command.Goals as goal

pub index_mut-player-requires : goal.index_mut-player-requires
index_mut-player-requires g c =
    let named = subst (λ (s : SessionData). c.args.seat < length (names_of s)) (sym c.self.view_is) c.requires in
    let below = pass_there _ _ _ _ _ _ _ c.self.invariant.0 named in
    omega (arith, below, c.self.inside.players.ok.0)

pub invariant_of-self-in_err-answer : goal.invariant_of-self-in_err-answer
invariant_of-self-in_err-answer g c =
    let named = subst (λ (s : SessionData). c.args.seat < length (names_of s)) (sym c.self.view_is) c.requires in
    let inv = c.self.invariant in
    let same = ap seat_of c.called_alone.ensures.seat in
    (session_stays _ _ _ _ _ _ _ _ _ _ inv.0 named c.index_mut-player.ensures.value same, c.called_alone.ensures.bounds ∙ c.begin_anew.ensures ∙ inv.1, inv.2, inv.3, inv.4, inv.5, inv.6)

pub returns-in_err-answer-clause-refused : goal.returns-in_err-answer-clause-refused
returns-in_err-answer-clause-refused g c =
    let lists = c.in_err-answer.ensures.refused in
    let seat = c.called_alone.ensures.seat in
    on_error _ _ (unchanged _ c.self.inside.bounds c.self.inside.keeper c.self.inside.players.items
    (edits_to c.self.inside.last) _ _ _ _ _ c.index_mut-player.ensures.value
    (λ i. record { seat = seat_of (seat i); lists = lists i })
    c.reserve.ensures.items ∙ c.self.view_is)

pub invariant_of-self-2 : goal.invariant_of-self-2
invariant_of-self-2 g c =
    let named = subst (λ (s : SessionData). c.args.seat < length (names_of s)) (sym c.self.view_is) c.requires in
    let inv = c.self.invariant in
    let same = ap seat_of c.called_alone.ensures.seat in
    (session_stays _ _ _ _ _ _ _ _ _ _ inv.0 named c.index_mut-player.ensures.value same, c.called_alone.ensures.bounds ∙ c.begin_anew.ensures ∙ inv.1, inv.2, inv.3, inv.4, inv.5, inv.6)

pub returns-clause-called : goal.returns-clause-called
returns-clause-called g c = λ name seated.
    let named = subst (λ (s : SessionData). c.args.seat < length (names_of s)) (sym c.self.view_is) c.requires in
    let number = ap (λ s. s.number) c.seat.ensures in
    called_by _ c.self.inside.bounds c.self.inside.keeper c.self.inside.players.items (edits_to c.self.inside.last)
    c.self.inside.marks.items c.reserve.new.self.items c.push_reserved.new.self.items c.args.seat
    c.seat.result.now.number c.place.result c.call_mark.result _ _ _ _
    c.self.view_is c.self.invariant.0 named c.index_mut-player.ensures.value refl seated number c.place.ensures
    (c.call_mark.ensures ∙ ap (mark.Call c.seat.result.now.number) c.sector_at-sector.ensures.value) c.in_ok-answer.ensures.called c.reserve.ensures.items c.push_reserved.ensures.items
