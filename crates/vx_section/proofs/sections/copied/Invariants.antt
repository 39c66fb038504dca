use Rattle.std.proofs.Common.{◌≡◌, ℕ, ◌<◌, get_or}
use Rattle.vx_section.specs.Indices.{nothing, AreSections}
use Rattle.vx_section.proofs.sections.copied.Given as goal

-- as many sections as ever, and the first of them copied
abbrev pub invariant-loop-k : goal.invariant-loop-k
invariant-loop-k l = record {
  sections : AreSections l.copies;
  same : (k : ℕ) → k < l.k → (get_or l.copies k nothing).bytes ≡ (get_or l.sections k nothing).bytes;
}
