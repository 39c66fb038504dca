use Rattle.std.proofs.Common.{sym, ◌∙◌, refl}
use Rattle.vx_geom.specs.Written.{written}
use Rattle.vx_policy.specs.Asked.{Reshape}
use Rattle.vx_policy.proofs.Accepted.{known_target, local_target, new_shape}
use Rattle.vx_policy.proofs.changes.reshape.Goals as goal

pub region-number-requires-clause-known : goal.region-number-requires-clause-known
region-number-requires-clause-known c = known_target _ (Reshape c.args.id.now (written c.args.shape.now)) c.requires refl

pub region-number-requires-clause-local : goal.region-number-requires-clause-local
region-number-requires-clause-local c = local_target _ (Reshape c.args.id.now (written c.args.shape.now)) c.requires refl

pub unreachable-requires : goal.unreachable-requires
unreachable-requires c = new_shape _ _ _ c.requires (sym c.in_ok-shape.ensures ∙ c.in_default.is)
