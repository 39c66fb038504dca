use Rattle.std.proofs.Common.{◌≡◌, ℕ, ◌<◌}
use Rattle.vx_audit.specs.Counts.{count_at}
use Rattle.vx_audit.proofs.counts.clear.Given as goal

-- the rows so far count nothing
abbrev pub invariant-loop-row : goal.invariant-loop-row
invariant-loop-row l = (k : ℕ) → k < l.row-index → (seat : ℕ) → count_at l.counts k seat ≡ 0
