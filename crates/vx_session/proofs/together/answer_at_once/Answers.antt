use Rattle.std.proofs.Common.{◌∙◌, map, subst}
use Rattle.std.proofs.lemmas.Simd.{map-map}
use Rattle.vx_session.specs.Blocks.{AreCarriedOut, player_data}
use Rattle.vx_session.specs.Sessions.{player_in}
use Rattle.vx_session.proofs.Told.{pass_of, carried_out, have_answers, seats_by_passes}
use Rattle.vx_session.proofs.together.answer_at_once.Goals as goal

pub tell_all-requires-clause-answered : goal.tell_all-requires-clause-answered
tell_all-requires-clause-answered g c =
    have_answers c.args.bounds.now c.args.requests.now (map player_data c.ask_all.new.players) (map player_data c.play_all.new.players)
    c.in_ok-play_all.ensures.played

pub returns-in_err-ask_all-clause-seats : goal.returns-in_err-ask_all-clause-seats
returns-in_err-ask_all-clause-seats g c = seats_by_passes player_data c.args.players.now c.ask_all.new.players c.ask_all.ensures.passes

pub returns-in_err-play_all-clause-seats : goal.returns-in_err-play_all-clause-seats
returns-in_err-play_all-clause-seats g c =
    c.play_all.ensures.seats ∙ seats_by_passes player_data c.args.players.now c.ask_all.new.players c.ask_all.ensures.passes

pub returns-clause-seats : goal.returns-clause-seats
returns-clause-seats g c =
    seats_by_passes player_data c.play_all.new.players c.tell_all.new.players c.tell_all.ensures.told.passes
    ∙ c.play_all.ensures.seats ∙ seats_by_passes player_data c.args.players.now c.ask_all.new.players c.ask_all.ensures.passes

pub returns-clause-carried_out : goal.returns-clause-carried_out
returns-clause-carried_out g c =
    let sizes = c.args.bounds.now in
    let requests = c.args.requests.now in
    let old = c.args.players.now in
    let asked = c.ask_all.new.players in
    let new = c.tell_all.new.players in
    let answers = c.tell_all.new.answers.items in
    subst (λ ps. AreCarriedOut sizes requests answers ps (map player_in new)) (c.ask_all.ensures.passes ∙ map-map pass_of player_data old)
    (subst (AreCarriedOut sizes requests answers (map pass_of (map player_data asked))) (map-map pass_of player_data new)
    (carried_out sizes requests answers (map player_data asked) (map player_data c.play_all.new.players) (map player_data new)
    c.tell_all.ensures.each c.in_ok-play_all.ensures.played c.tell_all.ensures.told))
