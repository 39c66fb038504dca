use Rattle.std.proofs.Common.{sym, subst}
use Rattle.vx_decide.specs.Cases.{case_of}
use Rattle.vx_decide.specs.Unset.{IsUnset}
use Rattle.vx_decide.proofs.Silent.{unset_decides}
use Rattle.vx_decide.proofs.contest.Contest.decided.Goals as goal

pub returns-then-is_unset : goal.returns-then-is_unset
returns-then-is_unset c =
    let inquiry = c.args.self.now.inquiry.now in
    sym (unset_decides c.args.self.now.question (case_of inquiry)
    (subst (IsUnset inquiry.asker.now.regions.now) c.flag.ensures (c.is_unset.ensures c.if-is_unset.true)))
