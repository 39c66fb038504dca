use Rattle.std.proofs.Common.{arith}
use Rattle.vx_marks.proofs.WordBits.{lowest_is_first}
use Rattle.vx_marks.proofs.words.lowest_bit.Goals as goal

pub returns : goal.returns
returns c = lowest_is_first c.args.word (omega arith) c.requires
