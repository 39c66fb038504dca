use Rattle.std.proofs.Common.{◌≡◌, ℕ, ◌<◌, ◌≤◌, []}
use Rattle.vx_record.specs.Said.{closed_at}
use Rattle.vx_record.proofs.settling.is_untouched.Given as goal

-- no entry of the sectors so far is closed
abbrev pub invariant-loop-at : goal.invariant-loop-at
invariant-loop-at l =
    (k : ℕ) → l.first ≤ k → k < l.at → closed_at k l.archive.chronicle.ticks ≡ []
