-- What has kept nothing keeps nothing of any version.
use Rattle.vx_sector.proofs.judge.Judge.new.Goals as goal

pub invariant_of-result : goal.invariant_of-result
invariant_of-result c = c.new.ensures c.in_ok-try_clone.field-0.policy
