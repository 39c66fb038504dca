use Rattle.std.proofs.Common.{sym}
use Rattle.vx_decide.specs.Cases.{case_of}
use Rattle.vx_decide.proofs.Silent.{unset_says}
use Rattle.vx_decide.proofs.inquiry.Inquiry.query.Goals as goal

pub returns-then-is_unset : goal.returns-then-is_unset
returns-then-is_unset c = sym (unset_says c.args.flag (case_of c.args.self.now) (c.is_unset.ensures c.if-is_unset.true))
