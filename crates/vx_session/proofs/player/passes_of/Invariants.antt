use Rattle.std.proofs.Common.{◌≡◌, ◌≤◌, map, vec_capacity, vec_len}
use Rattle.vx_session.proofs.player.passes_of.Given as goal

abbrev pub invariant-loop-player : goal.invariant-loop-player
invariant-loop-player g l =
    (l.passes.items ≡ map (λ player. player.pass) l.yielded) × (vec_len l.fn.players ≤ vec_capacity l.passes)
