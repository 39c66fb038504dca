use Rattle.std.proofs.Common.{◌≡◌, ◌++◌, map, take}
use Rattle.vx_sector.specs.SectorData.{entry_of}
use Rattle.vx_record.specs.Said.{calls_of}
use Rattle.vx_record.proofs.saying.rest_after.Given as goal

-- the calls begin with those among the entries so far
abbrev pub invariant-loop-entry : goal.invariant-loop-entry
invariant-loop-entry l =
    l.calls ≡ calls_of l.seat (map entry_of (take l.entry-index l.entries)) ++ l.rest
