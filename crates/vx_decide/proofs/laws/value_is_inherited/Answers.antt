use Rattle.vx_decide.proofs.Inherited.{value_is_inherited, inherited_is_the_value, value_is_from_the_ancestry, no_value_is_set}
use Rattle.vx_decide.proofs.laws.value_is_inherited.Goals as goal

pub returns-clause-inherited : goal.returns-clause-inherited
returns-clause-inherited c = value_is_inherited

pub returns-clause-value : goal.returns-clause-value
returns-clause-value c = inherited_is_the_value

pub returns-clause-ancestry : goal.returns-clause-ancestry
returns-clause-ancestry c = value_is_from_the_ancestry

pub returns-clause-none : goal.returns-clause-none
returns-clause-none c = no_value_is_set
