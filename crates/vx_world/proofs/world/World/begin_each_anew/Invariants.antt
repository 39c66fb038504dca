use Rattle.std.proofs.Common.{◌≡◌}
use Rattle.vx_world.proofs.world.World.begin_each_anew.Given as goal

-- the bounds stay
abbrev pub invariant-loop-at : goal.invariant-loop-at
invariant-loop-at g l = l.self.bounds ≡ l.fn.self.bounds
