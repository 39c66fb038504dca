use Rattle.std.proofs.Common.{◌≡◌}
use Rattle.vx_world.proofs.world.World.catch_up.Given as goal

-- the bounds stay
abbrev pub invariant-loop-at : goal.invariant-loop-at
invariant-loop-at g l = l.self.bounds ≡ l.fn.self.bounds
