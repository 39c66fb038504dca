use Rattle.vx_marks.proofs.WordBits.{run_marked}
use Rattle.vx_marks.proofs.words.mark_run.Goals as goal

pub returns-clause-marks : goal.returns-clause-marks
returns-clause-marks c =
    run_marked c.args.words.now c.args.first c.args.bits c.with_run.result c.requires c.with_run.ensures
