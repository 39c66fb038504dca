use Rattle.std.proofs.Common.{map}
use Rattle.vx_session.specs.Blocks.{HavePasses, player_data}
use Rattle.vx_session.proofs.Asking.{AreIdle}
use Rattle.vx_session.proofs.together.ask_nothing.Given as goal

abbrev pub invariant-loop-player : goal.invariant-loop-player
invariant-loop-player g l =
    HavePasses (map player_data l.initial.players) (map player_data l.players) × AreIdle l.player-index (map player_data l.players)
