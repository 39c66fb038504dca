use Rattle.std.proofs.Common.{◌≡◌}
use Rattle.vx_world.proofs.world.World.all_rest.Given as goal

-- the world has the same size
abbrev pub invariant-loop-window : goal.invariant-loop-window
invariant-loop-window g l = l.self.bounds ≡ l.fn.self.bounds
