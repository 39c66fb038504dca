use Rattle.std.proofs.Common.{sym, subst}
use Rattle.std.specs.Io.KnownBytes.{Appends}
use Rattle.std.proofs.KnownBytes.{Appends-trans}
use Rattle.vx_script.proofs.Blocks.{answers_more}
use Rattle.vx_script.proofs.block.write_answers.Goals as goal

pub loop-answer-preserved : goal.loop-answer-preserved
loop-answer-preserved g c =
    subst (Appends _ _) (sym (answers_more c.args.answers.now c.loop-answer.answer-index c.answer-item.result c.loop-answer-test.true c.answer-item.is))
    (Appends-trans _ _ _ _ _ c.loop-answer.invariant c.in_ok-write_answer.ensures.ok)
