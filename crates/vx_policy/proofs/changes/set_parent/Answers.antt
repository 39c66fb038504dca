use Rattle.std.proofs.Common.{Some, refl}
use Rattle.vx_policy.specs.Asked.{Parent}
use Rattle.vx_policy.proofs.Accepted.{known_target, local_target, known_parent, local_parent, parent_leads_on}
use Rattle.vx_policy.proofs.changes.set_parent.Goals as goal

pub region-number-requires-clause-known : goal.region-number-requires-clause-known
region-number-requires-clause-known c = known_target _ (Parent c.args.id.now (Some c.args.parent.now)) c.requires refl

pub region-number-requires-clause-local : goal.region-number-requires-clause-local
region-number-requires-clause-local c = local_target _ (Parent c.args.id.now (Some c.args.parent.now)) c.requires refl

pub region-above-requires-clause-known : goal.region-above-requires-clause-known
region-above-requires-clause-known c = known_parent _ _ _ c.requires

pub region-above-requires-clause-local : goal.region-above-requires-clause-local
region-above-requires-clause-local c = local_parent _ _ _ c.requires

pub set_parent-requires-clause-no_cycle : goal.set_parent-requires-clause-no_cycle
set_parent-requires-clause-no_cycle c = parent_leads_on _ _ _ c.requires _ _ c.region-number.ensures.number c.region-above.ensures.number
