use Rattle.std.proofs.Common.{◌<◌, length, get_or, map, sym, ap, ◌∙◌, subst, arith}
use Rattle.std.proofs.lemmas.List.{with_items_is}
use Rattle.vx_session.specs.Blocks.{AreCarriedOut}
use Rattle.vx_session.specs.Sessions.{SessionData, Does, IsSession, edits_to, names_of, player_in, session_data}
use Rattle.vx_audit.specs.Deeds.{Together}
use Rattle.vx_session.proofs.Passing.{as_many_passes, block_by, seats_stay}
use Rattle.vx_session.proofs.session.Session.together.Goals as goal

pub answers_of-requires-clause-named : goal.answers_of-requires-clause-named
answers_of-requires-clause-named g c κs within = λ k d below.
    let named = subst (λ (s : SessionData). (get_or c.args.requests.now k d).seat < length (names_of s)) (sym c.self.view_is) (c.requires k d below) in
    let many = as_many_passes player_in _ _ c.self.inside.players.items _ _ c.self.invariant.0 in
    omega (arith, named, many, ap length c.deref_mut.ensures.value)

pub invariant_of-self-in_err-answers : goal.invariant_of-self-in_err-answers
invariant_of-self-in_err-answers g c =
    let inv = c.self.invariant in
    let i = c.self.inside in
    let new = c.answers_of.new.players in
    let whole = with_items_is i.players new (c.answers_of.auto.players ∙ c.deref_mut.ensures.len) in
    let seats = c.answers_of.ensures.seats ∙ ap (map (λ p. (player_in p).seat)) c.deref_mut.ensures.value in (
      subst (λ ps. IsSession (session_data i.bounds i.keeper (map player_in ps) (edits_to i.last) c.reserve.new.self.items)) (sym whole)
          (seats_stay player_in i.bounds i.keeper i.players.items new (edits_to i.last) i.marks.items _ inv.0 seats),
      c.answers_of.ensures.bounds ∙ c.begin_all_anew.ensures ∙ inv.1,
      inv.2,
      inv.3,
      inv.4,
      inv.5,
      inv.6,
    )

pub invariant_of-self-2 : goal.invariant_of-self-2
invariant_of-self-2 g c =
    let inv = c.self.invariant in
    let i = c.self.inside in
    let new = c.answers_of.new.players in
    let whole = with_items_is i.players new (c.answers_of.auto.players ∙ c.deref_mut.ensures.len) in
    let seats = c.answers_of.ensures.seats ∙ ap (map (λ p. (player_in p).seat)) c.deref_mut.ensures.value in (
      subst (λ ps. IsSession (session_data i.bounds i.keeper (map player_in ps) (edits_to i.last) c.mark_all.new.marks.items)) (sym whole)
          (seats_stay player_in i.bounds i.keeper i.players.items new (edits_to i.last) i.marks.items _ inv.0 seats),
      c.answers_of.ensures.bounds ∙ c.begin_all_anew.ensures ∙ inv.1,
      inv.2,
      inv.3,
      inv.4,
      inv.5,
      inv.6,
    )

pub returns-clause-called : goal.returns-clause-called
returns-clause-called g c = λ calls made.
    let i = c.self.inside in
    let new = c.answers_of.new.players in
    let requests = c.args.requests.now in
    let answers = c.in_ok-answers.answers.items in
    let whole = with_items_is i.players new (c.answers_of.auto.players ∙ c.deref_mut.ensures.len) in
    let out : AreCarriedOut i.bounds requests answers (map player_in i.players.items) (map player_in new) =
    subst (λ ps. AreCarriedOut i.bounds requests answers (map player_in ps) (map player_in new)) c.deref_mut.ensures.value
    c.in_ok-answers.ensures.carried_out in
    subst (λ ps. Does c.args.self.now (Together calls) (session_data i.bounds i.keeper (map player_in ps) (edits_to i.last) c.mark_all.new.marks.items)) (sym whole)
    (block_by player_in i.bounds i.keeper i.players.items new (edits_to i.last) i.marks.items c.reserve.new.self.items c.mark_all.new.marks.items
    requests answers calls c.args.self.now c.self.view_is c.self.invariant.0 out c.reserve.ensures.items c.mark_all.ensures made)
