use Rattle.std.specs.List.{All}
use Rattle.vx_index.specs.Tiles.{IsTile}
use Rattle.vx_index.specs.Plots.{LiesAlong}
use Rattle.vx_index.proofs.row.Row.of.Given as goal

-- all tiles so far tell of the regions, and lie in the row
abbrev pub invariant-loop-column : goal.invariant-loop-column
invariant-loop-column l = All (IsTile l.regions) l.plots.items × All (LiesAlong l.columns) l.plots.items
