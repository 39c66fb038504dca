-- Each byte is that of a digit.
use Rattle.vx_grammar.proofs.Spelled.{three_digits}
use Rattle.vx_grammar.proofs.number.read_three.Goals as goal

pub returns : goal.returns
returns c = three_digits c.args.a c.args.b c.args.c c.in_ok-a.a c.in_ok-b.b c.in_ok-c.c c.in_ok-a.ensures c.in_ok-b.ensures c.in_ok-c.ensures
