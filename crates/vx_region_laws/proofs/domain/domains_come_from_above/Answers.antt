use Rattle.vx_region_laws.proofs.Joining.{parents_are_the_childs, childs_are_not_the_parents}
use Rattle.vx_region_laws.proofs.domain.domains_come_from_above.Goals as goal

pub returns-clause-down : goal.returns-clause-down
returns-clause-down c = parents_are_the_childs

pub returns-clause-up : goal.returns-clause-up
returns-clause-up c = childs_are_not_the_parents
