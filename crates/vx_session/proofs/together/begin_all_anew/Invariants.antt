use Rattle.std.proofs.Common.{◌≡◌}
use Rattle.vx_session.proofs.together.begin_all_anew.Given as goal

-- the world has the same size
abbrev pub invariant-loop-request : goal.invariant-loop-request
invariant-loop-request g l = l.world.bounds ≡ l.fn.world.bounds
