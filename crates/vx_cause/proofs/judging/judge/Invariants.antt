use Rattle.std.proofs.Common.{◌≡◌, drop}
use Rattle.vx_cause.specs.Judging.{first_denied}
use Rattle.vx_cause.proofs.judging.judge.Given as goal

-- the first denied cell of those that are left is the first of all
abbrev pub invariant-loop-p : goal.invariant-loop-p
invariant-loop-p g l =
    first_denied (g.D.Decide.policy l.policy) l.m.at (drop l.p-index l.p-items)
    ≡ first_denied (g.D.Decide.policy l.policy) l.m.at l.p-items
