use Rattle.vx_marks.proofs.WordBits.{mark_set}
use Rattle.vx_marks.proofs.words.set_mark.Goals as goal

pub returns-clause-marks : goal.returns-clause-marks
returns-clause-marks c =
    mark_set c.args.words.now c.args.index c.with_bit.result c.args.marked c.requires c.with_bit.ensures.here c.with_bit.ensures.others
