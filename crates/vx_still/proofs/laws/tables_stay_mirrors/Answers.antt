use Rattle.vx_still.proofs.Mirroring.{writes_keep_mirror, ticks_leave_mirror}
use Rattle.vx_still.proofs.laws.tables_stay_mirrors.Goals as goal

pub returns-clause-writes : goal.returns-clause-writes
returns-clause-writes c = writes_keep_mirror

pub returns-clause-ticks : goal.returns-clause-ticks
returns-clause-ticks c = ticks_leave_mirror
