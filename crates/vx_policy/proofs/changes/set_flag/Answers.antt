use Rattle.std.proofs.Common.{refl}
use Rattle.vx_policy.specs.Asked.{SetFlag}
use Rattle.vx_policy.proofs.Accepted.{known_target}
use Rattle.vx_policy.proofs.changes.set_flag.Goals as goal

pub known-number-requires : goal.known-number-requires
known-number-requires c = known_target _ (SetFlag c.args.id.now c.args.flag c.args.setting) c.requires refl
