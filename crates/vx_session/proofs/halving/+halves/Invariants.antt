use Rattle.std.proofs.Common.{◌+◌, ◌-◌, ◌*◌, length}
use Rattle.vx_session.proofs.halving.+halves.Given as goal

abbrev pub decreases-at_once : goal.decreases-at_once
decreases-at_once g l = 4 * length l.xs.now

abbrev pub decreases-both : goal.decreases-both
decreases-both g l = 4 * (length l.front.now + length l.back.now) - 1

abbrev pub decreases-both-these : goal.decreases-both-these
decreases-both-these g l = 4 * length l.front.now + 1

abbrev pub decreases-both-those : goal.decreases-both-those
decreases-both-those g l = 4 * length l.back.now + 1
