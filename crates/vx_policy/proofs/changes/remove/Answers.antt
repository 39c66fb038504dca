use Rattle.std.proofs.Common.{refl}
use Rattle.vx_policy.specs.Asked.{Remove}
use Rattle.vx_policy.proofs.Accepted.{known_target, local_target, childless}
use Rattle.vx_policy.proofs.changes.remove.Goals as goal

pub region-number-requires-clause-known : goal.region-number-requires-clause-known
region-number-requires-clause-known c = known_target _ (Remove c.args.id.now) c.requires refl

pub region-number-requires-clause-local : goal.region-number-requires-clause-local
region-number-requires-clause-local c = local_target _ (Remove c.args.id.now) c.requires refl

pub remove-requires-clause-childless : goal.remove-requires-clause-childless
remove-requires-clause-childless c = childless _ _ _ c.requires c.region-number.ensures.number
