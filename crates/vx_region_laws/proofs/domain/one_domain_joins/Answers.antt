use Rattle.vx_region_laws.proofs.Joining.{one_domain_joins, last_domain_parts}
use Rattle.vx_region_laws.proofs.domain.one_domain_joins.Goals as goal

pub returns-clause-joined : goal.returns-clause-joined
returns-clause-joined c = one_domain_joins

pub returns-clause-parted : goal.returns-clause-parted
returns-clause-parted c = last_domain_parts
