use Rattle.std.proofs.Common.{arith, sym, ◌∙◌}
use Rattle.std.proofs.lemmas.Bool.Decides.{nat_tests}
use Rattle.vx_name.specs.Alphabet.{passes}
use Rattle.vx_name.specs.Words.{IsWord}
use Rattle.vx_name.proofs.Spelling.{small_word, word_as_itself}
use Rattle.vx_name.proofs.word.read_word.Given.{Over}
use Rattle.vx_name.proofs.word.read_word.Goals as goal

module _ (g : Over) (c : goal.After-read_small g) where
  -- the text is a word as it stands
  word : IsWord (passes c.args.alphabet) g.row.N c.args.text.now
  word =
      small_word c.args.alphabet g.row.N c.args.text.now (grind (arith, nat_tests)) (grind (arith, nat_tests))
      (sym c.are_small.ensures ∙ c.if-are_small.true)

pub returns-then-are_small-clause-value : goal.returns-then-are_small-clause-value
returns-then-are_small-clause-value g c =
    rw c.read_small.ensures (sym (word_as_itself c.args.alphabet g.row.N c.args.text.now (word g c)))

pub returns-then-are_small-clause-word : goal.returns-then-are_small-clause-word
returns-then-are_small-clause-word g c = rw c.read_small.ensures (word g c)
