use Rattle.std.proofs.Common.{map, take}
use Rattle.vx_sector.specs.SectorData.{entry_of}
use Rattle.vx_record.specs.Chronicles.{AreSeated}
use Rattle.vx_record.proofs.seated.are_seated.Given as goal

-- the entries so far were made from seats of the opening
abbrev pub invariant-loop-entry : goal.invariant-loop-entry
invariant-loop-entry l = AreSeated l.opening.names (map entry_of (take l.entry-index l.entries))
