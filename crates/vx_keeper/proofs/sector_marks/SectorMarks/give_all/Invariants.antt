use Rattle.std.proofs.Common.{◌≡◌, ℕ, ◌<◌, length, slice_index_or, None}
use Rattle.vx_keeper.proofs.sector_marks.SectorMarks.give_all.Given as goal

-- so many have the mark
abbrev pub invariant-loop-number : goal.invariant-loop-number
invariant-loop-number g l =
    (length l.self-inside.marks.items ≡ length l.initial.self-inside.marks.items)
    × ((n : ℕ) → n < l.number → slice_index_or l.self-inside.marks.items n None ≡ l.mark)
