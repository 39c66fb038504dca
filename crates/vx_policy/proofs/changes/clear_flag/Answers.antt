use Rattle.std.proofs.Common.{refl}
use Rattle.vx_policy.specs.Asked.{ClearFlag}
use Rattle.vx_policy.proofs.Accepted.{known_target}
use Rattle.vx_policy.proofs.changes.clear_flag.Goals as goal

pub known-number-requires : goal.known-number-requires
known-number-requires c = known_target _ (ClearFlag c.args.id.now c.args.flag) c.requires refl
