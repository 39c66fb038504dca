use Rattle.std.proofs.Common.{sym}
use Rattle.vx_region.specs.Subjects.{actor_of}
use Rattle.vx_decide.proofs.Silent.{unset_has_none}
use Rattle.vx_decide.proofs.inquiry.Inquiry.effective.Goals as goal

pub returns-then-is_unset : goal.returns-then-is_unset
returns-then-is_unset c =
    sym (unset_has_none c.args.self.now.asker.now.regions.now (actor_of c.args.self.now.asker.now.subject.now) c.args.flag c.args.number.0
    (c.is_unset.ensures c.if-is_unset.true))
