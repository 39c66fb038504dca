use Rattle.std.proofs.Common.{◌≡◌, drop}
use Rattle.vx_block.proofs.KindWords.{kinds, with_word}
use Rattle.vx_block.proofs.kind.Kind.read.Given as goal

-- no kind so far has the word
abbrev pub invariant-loop-kind : goal.invariant-loop-kind
invariant-loop-kind l = with_word l.word (drop l.kind-index kinds) ≡ with_word l.word kinds
