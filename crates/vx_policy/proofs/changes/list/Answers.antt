use Rattle.std.proofs.Common.{refl}
use Rattle.vx_policy.specs.Asked.{Listed}
use Rattle.vx_policy.proofs.Accepted.{known_target, local_target, name_spelled}
use Rattle.vx_policy.proofs.changes.list.Goals as goal

pub region-number-requires-clause-known : goal.region-number-requires-clause-known
region-number-requires-clause-known c = known_target _ (Listed c.args.roster c.args.id.now c.args.listing c.args.name.now) c.requires refl

pub region-number-requires-clause-local : goal.region-number-requires-clause-local
region-number-requires-clause-local c = local_target _ (Listed c.args.roster c.args.id.now c.args.listing c.args.name.now) c.requires refl

pub unreachable-requires : goal.unreachable-requires
unreachable-requires c = name_spelled _ _ _ _ _ c.requires c.in_default.ensures
