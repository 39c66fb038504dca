use Rattle.std.proofs.Common.{◌≡◌, None, take}
use Rattle.std.specs.List.{All}
use Rattle.vx_session.proofs.together.first_stop.Given as goal

abbrev pub invariant-loop-player : goal.invariant-loop-player
invariant-loop-player g l = All (λ player. player.stopped ≡ None) (take l.player-index l.players)
