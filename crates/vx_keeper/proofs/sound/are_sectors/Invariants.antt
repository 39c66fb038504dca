use Rattle.std.proofs.Common.{take}
use Rattle.std.specs.List.{All}
use Rattle.vx_sector.specs.Windows.{IsSector}
use Rattle.vx_keeper.proofs.sound.are_sectors.Given as goal

-- that is so of the sectors so far
abbrev pub invariant-loop-sector : goal.invariant-loop-sector
invariant-loop-sector l = All IsSector (take l.sector-index l.sectors)
