use Rattle.std.proofs.Common.{None, refl}
use Rattle.vx_policy.specs.Asked.{Parent}
use Rattle.vx_policy.proofs.Accepted.{known_target, local_target}
use Rattle.vx_policy.proofs.changes.clear_parent.Goals as goal

pub region-number-requires-clause-known : goal.region-number-requires-clause-known
region-number-requires-clause-known c = known_target _ (Parent c.args.id.now None) c.requires refl

pub region-number-requires-clause-local : goal.region-number-requires-clause-local
region-number-requires-clause-local c = local_target _ (Parent c.args.id.now None) c.requires refl
