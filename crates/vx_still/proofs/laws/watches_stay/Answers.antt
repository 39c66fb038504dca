use Rattle.vx_still.proofs.Watching.{writes_keep_watch, ticks_leave_watch}
use Rattle.vx_still.proofs.laws.watches_stay.Goals as goal

pub returns-clause-writes : goal.returns-clause-writes
returns-clause-writes c = writes_keep_watch

pub returns-clause-ticks : goal.returns-clause-ticks
returns-clause-ticks c = ticks_leave_watch
