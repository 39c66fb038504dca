use Rattle.vx_step.proofs.Dividing.{each_is_own, none_is_shared}
use Rattle.vx_step.proofs.laws.each_sector_has_one_worker.Goals as goal

pub returns-clause-some : goal.returns-clause-some
returns-clause-some c = each_is_own

pub returns-clause-only : goal.returns-clause-only
returns-clause-only c = none_is_shared
