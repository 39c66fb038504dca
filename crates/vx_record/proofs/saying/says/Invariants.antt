use Rattle.std.proofs.Common.{◌≡◌, ◌++◌, map, take}
use Rattle.vx_record.specs.Records.{tick_in}
use Rattle.vx_record.specs.Said.{calls_of, closed_at}
use Rattle.vx_record.proofs.saying.says.Given as goal

-- the calls begin with those in the windows of the ticks so far
abbrev pub invariant-loop-tick : goal.invariant-loop-tick
invariant-loop-tick l =
    l.calls ≡ calls_of l.seat (closed_at l.at (map tick_in (take l.tick-index l.ticks))) ++ l.rest
