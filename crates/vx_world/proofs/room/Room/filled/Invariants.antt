use Rattle.std.proofs.Common.{◌≡◌, ◌+◌, ◌≤◌, length}
use Rattle.std.specs.Vec.{vec_len, vec_capacity}
use Rattle.vx_world.proofs.room.Room.filled.Given as goal

-- as many are left as there is room for
abbrev pub invariant-loop-lock : goal.invariant-loop-lock
invariant-loop-lock g l =
    (vec_len l.slots + length l.lock-iterator.rest.items ≡ g.A.Places.all)
    × (g.A.Places.all ≤ vec_capacity l.slots)
