use Rattle.std.proofs.Common.{take}
use Rattle.std.specs.Io.KnownBytes.{Appends}
use Rattle.vx_script.specs.Replies.{fates_text}
use Rattle.vx_script.proofs.body.write_fates.Given as goal

-- the fates so far are written
abbrev pub invariant-loop-p : goal.invariant-loop-p
invariant-loop-p g l =
    Appends (g.W.Write.contents l.fn.writer) (g.W.Write.contents l.writer) (fates_text (take l.p-index l.fates))
