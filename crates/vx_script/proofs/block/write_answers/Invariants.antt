use Rattle.std.proofs.Common.{take}
use Rattle.std.specs.Io.KnownBytes.{Appends}
use Rattle.vx_script.specs.Replies.{answers_text}
use Rattle.vx_script.proofs.block.write_answers.Given as goal

-- the answers so far are written
abbrev pub invariant-loop-answer : goal.invariant-loop-answer
invariant-loop-answer g l =
    Appends (g.W.Write.contents l.fn.writer) (g.W.Write.contents l.writer) (answers_text (take l.answer-index l.answers))
