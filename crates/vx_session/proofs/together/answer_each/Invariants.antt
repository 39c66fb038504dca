use Rattle.std.proofs.Common.{◌≡◌, ◌≤◌, length, map, take, vec_capacity}
use Rattle.vx_session.specs.Blocks.{AreCarriedOut}
use Rattle.vx_session.specs.Sessions.{player_in}
use Rattle.vx_session.proofs.together.answer_each.Given as goal

abbrev pub invariant-loop-request : goal.invariant-loop-request
invariant-loop-request g l =
    (length l.answers.items ≡ l.request-index) × (length l.requests ≤ vec_capacity l.answers)
    × (map (λ player. (player_in player).seat) l.players ≡ map (λ player. (player_in player).seat) l.initial.players)
    × AreCarriedOut l.bounds (take l.request-index l.requests) l.answers.items (map player_in l.initial.players) (map player_in l.players)
    × (l.world.bounds ≡ l.initial.world.bounds)
