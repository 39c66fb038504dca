use Rattle.vx_decide.proofs.Ranks.{top_is_highest, higher_priority_decides}
use Rattle.vx_decide.proofs.laws.highest_priority_decides.Goals as goal

pub returns-clause-top : goal.returns-clause-top
returns-clause-top c = top_is_highest

pub returns-clause-higher : goal.returns-clause-higher
returns-clause-higher c = higher_priority_decides
