use Rattle.std.proofs.Common.{refl, ap, arith}
use Rattle.vx_sector.specs.SectorData.{seat_of}
use Rattle.vx_session.specs.Blocks.{player_data}
use Rattle.vx_session.specs.Sessions.{player_in}
use Rattle.vx_session.proofs.Told.{all_played, seen_alike}
use Rattle.vx_session.proofs.together.play_all.Goals as goal

pub returns-in-Some-clause-seats : goal.returns-in-Some-clause-seats
returns-in-Some-clause-seats g c =
    seen_alike (λ player. (player_in player).seat) c.args.players.now c.play_each.new.players c.play_each.auto.players
    (λ k d below. ap seat_of (c.play_each.ensures.seats k d below))

pub returns-in-None-clause-seats : goal.returns-in-None-clause-seats
returns-in-None-clause-seats g c =
    seen_alike (λ player. (player_in player).seat) c.args.players.now c.play_each.new.players c.play_each.auto.players
    (λ k d below. ap seat_of (c.play_each.ensures.seats k d below))

pub returns-in-None-clause-played : goal.returns-in-None-clause-played
returns-in-None-clause-played g c =
    let players = c.play_each.new.players in
    let same = c.play_each.auto.players in
    all_played player_data c.args.bounds.now c.args.requests.now c.args.players.now players same c.requires.asked
    (λ k d below. c.play_each.ensures.played k d below (c.in-None.ensures refl k d (omega (arith, below, same))))
