use Rattle.std.proofs.Common.{◌≡◌, replicate}
use Rattle.vx_places.proofs.Marked as marked
use Rattle.vx_places.proofs.places.unmarked.Given as goal

-- as many so far
abbrev pub invariant-loop-number : goal.invariant-loop-number
invariant-loop-number l = l.sectors.items ≡ replicate l._number marked.unmarked
