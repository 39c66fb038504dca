use Rattle.std.proofs.Common.{refl}
use Rattle.vx_policy.specs.Asked.{Priority}
use Rattle.vx_policy.proofs.Accepted.{known_target, local_target}
use Rattle.vx_policy.proofs.changes.set_priority.Goals as goal

pub region-number-requires-clause-known : goal.region-number-requires-clause-known
region-number-requires-clause-known c = known_target _ (Priority c.args.id.now c.args.priority) c.requires refl

pub region-number-requires-clause-local : goal.region-number-requires-clause-local
region-number-requires-clause-local c = local_target _ (Priority c.args.id.now c.args.priority) c.requires refl
