-- Each byte is that of a digit.
use Rattle.vx_grammar.proofs.Spelled.{two_digits}
use Rattle.vx_grammar.proofs.number.read_two.Goals as goal

pub returns : goal.returns
returns c = two_digits c.args.a c.args.b c.in_ok-a.a c.in_ok-b.b c.in_ok-a.ensures c.in_ok-b.ensures
