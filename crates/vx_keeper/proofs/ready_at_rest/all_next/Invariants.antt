use Rattle.std.proofs.Common.{map}
use Rattle.vx_keeper.specs.Readiness.{AreNext}
use Rattle.vx_keeper.proofs.ready_at_rest.all_next.Given as goal

-- what the sectors so far begin with
abbrev pub invariant-loop-number : goal.invariant-loop-number
invariant-loop-number l =
    AreNext l.version (map (λ c. c.now) l.cells) l.changes l.number l.all.items
