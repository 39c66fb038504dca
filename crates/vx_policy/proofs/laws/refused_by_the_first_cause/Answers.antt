use Rattle.vx_policy.proofs.Causes.{refused_by_the_first, accepted_without_cause}
use Rattle.vx_policy.proofs.laws.refused_by_the_first_cause.Goals as goal

pub returns-clause-first : goal.returns-clause-first
returns-clause-first c = refused_by_the_first

pub returns-clause-none : goal.returns-clause-none
returns-clause-none c = accepted_without_cause
