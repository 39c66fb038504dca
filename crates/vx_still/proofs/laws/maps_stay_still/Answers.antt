use Rattle.vx_still.proofs.Stilling.{writes_keep_still, ticks_leave_still, still_rests}
use Rattle.vx_still.proofs.laws.maps_stay_still.Goals as goal

pub returns-clause-writes : goal.returns-clause-writes
returns-clause-writes c = writes_keep_still

pub returns-clause-ticks : goal.returns-clause-ticks
returns-clause-ticks c = ticks_leave_still

pub returns-clause-rests : goal.returns-clause-rests
returns-clause-rests c = still_rests
