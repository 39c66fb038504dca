use Rattle.vx_machine_laws.proofs.Locking.{unlocked_follow}
use Rattle.vx_machine_laws.proofs.repeaters.repeaters_follow_what_is_behind.Goals as goal

pub returns : goal.returns
returns c = unlocked_follow
