use Rattle.std.proofs.Common.{rules}
use Rattle.vx_sector.proofs.Leaving.{nobody_asked, permitted_by, denied_by}
use Rattle.vx_sector.proofs.acting.permitted.Goals as goal

pub returns-in_default-clause-leave : goal.returns-in_default-clause-leave
returns-in_default-clause-leave c = λ cells. nobody_asked _ cells _ _ _ (search rules)

pub returns-in-Permit-clause-leave : goal.returns-in-Permit-clause-leave
returns-in-Permit-clause-leave c = λ cells. permitted_by _ cells _ _ c.in-Some.action _ (search rules) (search rules)

pub returns-in-Deny-clause-leave : goal.returns-in-Deny-clause-leave
returns-in-Deny-clause-leave c = λ cells. denied_by _ cells _ _ c.in-Some.action _ (search rules) (search rules)
