use Rattle.vx_region_laws.proofs.Joining.{no_domain_as_before}
use Rattle.vx_region_laws.proofs.domain.no_domain_changes_nothing.Goals as goal

pub returns : goal.returns
returns c = no_domain_as_before
