use Rattle.std.proofs.Common.{◌≡◌, ◌≤◌, None, replicate, vec_capacity}
use Rattle.vx_keeper.proofs.ready_at_rest.nothing.Given as goal

-- nothing for so many, and there is room for the others
abbrev pub invariant-loop : goal.invariant-loop
invariant-loop l = (l.changes.items ≡ replicate l.counter None) × (l.count ≤ vec_capacity l.changes)
