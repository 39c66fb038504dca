use Rattle.std.proofs.Common.{arith}
use Rattle.vx_marks.proofs.WordBits.{none_in_rest, first_in_rest}
use Rattle.vx_marks.proofs.words.first_bit.Goals as goal

pub returns-then-rest-eq0 : goal.returns-then-rest-eq0
returns-then-rest-eq0 c = none_in_rest c.args.word c.args.from c.if-rest-eq0.true

pub returns : goal.returns
returns c = first_in_rest c.args.word c.args.from (omega arith) (omega (arith, c.if-rest-eq0.false))
