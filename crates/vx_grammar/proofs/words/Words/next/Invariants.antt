-- What was cut off held no word, and what is left is a text.
use Rattle.std.proofs.Common.{◌≡◌, length, IsUtf8}
use Rattle.vx_grammar.specs.Words.{words_of}
use Rattle.vx_grammar.proofs.words.Words.next.Given as goal

abbrev pub invariant-loop-piece : goal.invariant-loop-piece
invariant-loop-piece l = (words_of l.self-inside.rest.now ≡ words_of l.initial.self-inside.rest.now) × IsUtf8 l.self-inside.rest.now

abbrev pub decreases-loop-piece : goal.decreases-loop-piece
decreases-loop-piece l = length l.self-inside.rest.now
