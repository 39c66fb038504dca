use Rattle.vx_decide.proofs.Membership.{membership_denies, membership_permits}
use Rattle.vx_decide.proofs.laws.membership_is_grounded.Goals as goal

pub returns-clause-denies : goal.returns-clause-denies
returns-clause-denies c = membership_denies

pub returns-clause-permits : goal.returns-clause-permits
returns-clause-permits c = membership_permits
