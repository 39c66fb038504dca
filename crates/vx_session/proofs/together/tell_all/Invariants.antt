use Rattle.std.proofs.Common.{◌≡◌, ◌≤◌, length, map, take, vec_capacity}
use Rattle.vx_session.specs.Blocks.{AreTold, player_data}
use Rattle.vx_session.proofs.together.tell_all.Given as goal

abbrev pub invariant-loop-request : goal.invariant-loop-request
invariant-loop-request g l =
    (length l.answers.items ≡ l.request-index) × (length l.requests ≤ vec_capacity l.answers)
    × AreTold (take l.request-index l.requests) l.answers.items (map player_data l.initial.players) (map player_data l.players)
