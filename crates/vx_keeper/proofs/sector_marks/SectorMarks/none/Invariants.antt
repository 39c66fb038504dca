use Rattle.std.proofs.Common.{◌≡◌, None, replicate}
use Rattle.vx_keeper.proofs.sector_marks.SectorMarks.none.Given as goal

-- none for so many
abbrev pub invariant-loop : goal.invariant-loop
invariant-loop g l = l.marks.items ≡ replicate l.counter None
