use Rattle.vx_marks.proofs.WordBits.{run_set}
use Rattle.vx_marks.proofs.words.with_run.Goals as goal

pub returns : goal.returns
returns c i low = run_set c.args.word c.args.from c.args.bits i low
