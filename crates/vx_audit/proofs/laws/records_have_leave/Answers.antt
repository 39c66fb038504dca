use Rattle.vx_audit.proofs.Owning as owning
use Rattle.vx_audit.proofs.laws.records_have_leave.Goals as goal

pub returns-clause-changes : goal.returns-clause-changes
returns-clause-changes c = owning.records_have_leave

pub returns-clause-denials : goal.returns-clause-denials
returns-clause-denials c = owning.records_deny_by_the_policy
