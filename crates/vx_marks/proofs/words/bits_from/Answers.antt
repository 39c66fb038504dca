use Rattle.vx_marks.proofs.WordBits.{run_of}
use Rattle.vx_marks.proofs.words.bits_from.Goals as goal

pub returns : goal.returns
returns c k = run_of c.args.word c.args.from c.args.count k c.requires.few
