use Rattle.std.proofs.Common.{◌≡◌, ◌≤◌, map, vec_capacity, vec_len}
use Rattle.vx_session.proofs.player.players_of.Given as goal

abbrev pub invariant-loop-pass : goal.invariant-loop-pass
invariant-loop-pass g l =
    (map (λ player. player.pass) l.players.items ≡ l.yielded) × (vec_len l.fn.passes ≤ vec_capacity l.players)
