use Rattle.std.proofs.Common.{map, take}
use Rattle.vx_record.specs.Records.{tick_in}
use Rattle.vx_record.specs.Said.{closed_at}
use Rattle.vx_record.specs.Rests.{lists_in, AreAllBehind}
use Rattle.vx_record.proofs.rests.take_closed.Given as goal

-- the calls in the windows of the ticks so far are taken
abbrev pub invariant-loop-tick : goal.invariant-loop-tick
invariant-loop-tick l =
    AreAllBehind l.seats l.first (map lists_in l.fn.tables)
    (λ k. closed_at k (map tick_in (take l.tick-index l.ticks)))
    (map lists_in l.tables)
