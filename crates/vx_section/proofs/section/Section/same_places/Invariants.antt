use Rattle.std.proofs.Common.{◌≡◌, ℕ, ◌<◌, get_or}
use Rattle.vx_section.proofs.section.Section.same_places.Given as goal

-- the same so far
abbrev pub invariant-loop-place : goal.invariant-loop-place
invariant-loop-place l = (k : ℕ) → k < l.place → get_or l.self.bytes k 0 ≡ get_or l.other.bytes k 0
