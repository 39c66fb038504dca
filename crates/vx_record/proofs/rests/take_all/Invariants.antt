use Rattle.std.proofs.Common.{map, take}
use Rattle.vx_sector.specs.SectorData.{entry_of}
use Rattle.vx_record.specs.Rests.{AreBehind}
use Rattle.vx_record.proofs.rests.take_all.Given as goal

-- the calls in the entries so far are taken
abbrev pub invariant-loop-entry : goal.invariant-loop-entry
invariant-loop-entry l =
    AreBehind l.seats (map (λ rest. rest.now) l.fn.rests)
    (map entry_of (take l.entry-index l.entries)) (map (λ rest. rest.now) l.rests)
