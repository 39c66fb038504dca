use Rattle.std.proofs.Common.{map, take}
use Rattle.vx_session.specs.Blocks.{AreAsked, HavePasses, player_data}
use Rattle.vx_session.proofs.together.hand_out.Given as goal

abbrev pub invariant-loop-request : goal.invariant-loop-request
invariant-loop-request g l =
    HavePasses (map player_data l.initial.players) (map player_data l.players)
    × AreAsked (take l.request-index l.requests) (map player_data l.players)
