use Rattle.vx_index.specs.Patches.{HoldsThere}
use Rattle.vx_index.proofs.Squares.{rows_before}
use Rattle.vx_index.proofs.patches.band_of.Given as goal

-- the columns hold what the shape has in the rows so far
abbrev pub invariant-loop-row : goal.invariant-loop-row
invariant-loop-row l = HoldsThere l.shape (rows_before l.west l.z l.row) l.columns
