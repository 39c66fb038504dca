use Rattle.vx_geom.proofs.OrderLemmas.{derived_cmp, derived_partial_cmp}
use Rattle.vx_geom.proofs.laws.order_is_derived.Goals as goal

pub returns-clause-cmp : goal.returns-clause-cmp
returns-clause-cmp c = derived_cmp

pub returns-clause-partial_cmp : goal.returns-clause-partial_cmp
returns-clause-partial_cmp c = derived_partial_cmp
