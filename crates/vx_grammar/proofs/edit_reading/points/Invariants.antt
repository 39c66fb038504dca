use Rattle.std.proofs.Common.{◌≡◌, ◌++◌, length, option_map}
use Rattle.vx_grammar.specs.EditLines.{points_of}
use Rattle.vx_grammar.proofs.edit_reading.points.Given as goal

-- the points so far, and those of the words that are left
abbrev pub invariant-loop-word : goal.invariant-loop-word
invariant-loop-word l = points_of l.fn.words ≡ option_map (λ more. l.points.items ++ more) (points_of l.words)

abbrev pub decreases-loop-word : goal.decreases-loop-word
decreases-loop-word l = length l.words
