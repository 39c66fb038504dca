use Rattle.std.proofs.Common.{◌+◌, ◌*◌}
use Rattle.vx_index.specs.Patches.{Adds}
use Rattle.vx_index.proofs.Squares.{rows_before}
use Rattle.vx_index.proofs.patches.add_bands.Given as goal

-- the bands so far are added
abbrev pub invariant-loop-band : goal.invariant-loop-band
invariant-loop-band l = Adds l.number l.shape (rows_before l.west l.north (l.north + 8 * l.band)) l.initial.patches.items l.patches.items
