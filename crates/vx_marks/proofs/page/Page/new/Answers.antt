use Rattle.std.proofs.Common.{arith}
use Rattle.vx_marks.proofs.Marking.{none_filled}
use Rattle.vx_marks.proofs.page.Page.new.Goals as goal

pub invariant_of-result : goal.invariant_of-result
invariant_of-result c = none_filled 64 1 (omega arith)
