-- Each byte is that of a digit.
use Rattle.vx_grammar.proofs.Spelled.{one_digit}
use Rattle.vx_grammar.proofs.number.read_one.Goals as goal

pub returns : goal.returns
returns c = one_digit c.args.a c.in_ok-a.a c.in_ok-a.ensures
