use Rattle.std.proofs.Common.{map}
use Rattle.vx_sector.specs.SectorData.{entry_of}
use Rattle.vx_audit.proofs.Counted.{AreTaken}
use Rattle.vx_audit.proofs.fronts.take_counted.Given as goal

-- so many sectors' fronts are taken
abbrev pub invariant-loop-k : goal.invariant-loop-k
invariant-loop-k l =
    AreTaken l.k l.counts (map (λ left. map entry_of left.now) l.fn.lefts) (map (λ left. map entry_of left.now) l.lefts)
