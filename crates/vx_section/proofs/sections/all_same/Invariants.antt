use Rattle.std.proofs.Common.{◌≡◌, ℕ, ◌<◌, get_or}
use Rattle.vx_section.specs.Indices.{nothing}
use Rattle.vx_section.proofs.sections.all_same.Given as goal

-- the same so far
abbrev pub invariant-loop-k : goal.invariant-loop-k
invariant-loop-k l = (k : ℕ) → k < l.k → (get_or l.mine k nothing).bytes ≡ (get_or l.its k nothing).bytes
