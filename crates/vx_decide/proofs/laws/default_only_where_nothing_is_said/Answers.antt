use Rattle.vx_decide.proofs.Lowest.{values_at_the_place_decide, default_only_where_nothing_is_said}
use Rattle.vx_decide.proofs.laws.default_only_where_nothing_is_said.Goals as goal

pub returns-clause-values : goal.returns-clause-values
returns-clause-values c = values_at_the_place_decide

pub returns-clause-default : goal.returns-clause-default
returns-clause-default c = default_only_where_nothing_is_said
