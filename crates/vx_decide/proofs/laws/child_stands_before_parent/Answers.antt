use Rattle.vx_decide.proofs.Ranks.{child_stands_before_parent, child_at_the_same_priority}
use Rattle.vx_decide.proofs.laws.child_stands_before_parent.Goals as goal

pub returns-clause-speaks : goal.returns-clause-speaks
returns-clause-speaks c = child_stands_before_parent

pub returns-clause-counts : goal.returns-clause-counts
returns-clause-counts c = child_at_the_same_priority
