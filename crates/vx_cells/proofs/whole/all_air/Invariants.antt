use Rattle.std.proofs.Common.{◌≡◌, length}
use Rattle.vx_cells.specs.Wholes.{airs}
use Rattle.vx_cells.proofs.whole.all_air.Given as goal

-- the sectors up to this number
abbrev pub invariant-loop-number : goal.invariant-loop-number
invariant-loop-number l = (l.sectors.items ≡ airs l.bounds l.number) × (length l.sectors.items ≡ l.number)
