use Rattle.vx_levels.proofs.Agreeing.{consistent_is_exact, exact_is_consistent}
use Rattle.vx_levels.proofs.laws.levels_agree.Goals as goal

pub returns-clause-exact : goal.returns-clause-exact
returns-clause-exact c = consistent_is_exact

pub returns-clause-agree : goal.returns-clause-agree
returns-clause-agree c = exact_is_consistent
