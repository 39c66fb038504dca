use Rattle.vx_marks.proofs.WordBits.{run_is}
use Rattle.vx_marks.proofs.words.run.Goals as goal

pub returns : goal.returns
returns c = run_is c.args.words.now c.args.first c.args.count c.bits_from.result c.requires.within c.bits_from.ensures
