use Rattle.std.proofs.Common.{◌≡◌, ℕ, ◌<◌, length, get_or}
use Rattle.vx_section.proofs.few.Few.unpacked.Given as goal

-- a byte each, and the first of them as they are
abbrev pub invariant-loop-place : goal.invariant-loop-place
invariant-loop-place l = record {
  long : length l.bytes ≡ 4096;
  same : (k : ℕ) → k < l.place → get_or l.bytes k 0 ≡ get_or l.self.bytes k 0;
}
