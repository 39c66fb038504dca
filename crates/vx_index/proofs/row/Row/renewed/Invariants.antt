use Rattle.std.proofs.Common.{◌≡◌, ◌≤◌, length, vec_capacity}
use Rattle.std.specs.List.{All}
use Rattle.std.specs.Option.{option_copied}
use Rattle.vx_index.specs.Tiles.{TellsOf}
use Rattle.vx_index.specs.Plots.{LiesAlong}
use Rattle.vx_index.specs.Shapes.{Shapes, renewed_at}
use Rattle.vx_index.specs.Touching.{AreTouched}
use Rattle.vx_index.proofs.row.Row.renewed.Given as goal

-- the tiles so far tell of the shapes with the new one, and lie in the row, and there is room for the others
abbrev pub invariant-loop-plot : goal.invariant-loop-plot
invariant-loop-plot l =
    ((shapes : Shapes) → All (TellsOf shapes) l.self → AreTouched (shapes l.number) (option_copied l.shape) l.touched
    → All (TellsOf (renewed_at shapes l.number (option_copied l.shape))) l.plots.items)
    × All (LiesAlong l.columns) l.plots.items
    × (length l.plots.items ≡ l.plot-index)
    × (length l.self ≤ vec_capacity l.plots)
    × (l.cut ≡ option_copied l.shape)
