use Rattle.vx_name.specs.Texts.{texts}
use Rattle.vx_play.specs.Guesses.{AreGuesses}
use Rattle.vx_play.proofs.name_index.guesses_of.Given as goal

-- each is a guess
abbrev pub invariant-loop-number : goal.invariant-loop-number
invariant-loop-number l = AreGuesses (texts l.names) l.guesses
