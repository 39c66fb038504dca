use Rattle.std.proofs.Common.{◌≡◌, ◌≤◌, length, vec_capacity}
use Rattle.std.specs.Option.{option_copied}
use Rattle.std.specs.List.{All}
use Rattle.vx_index.specs.Tiles.{TellsOf}
use Rattle.vx_index.specs.Shapes.{Shapes, renewed_at}
use Rattle.vx_index.specs.Touching.{AreTouched}
use Rattle.vx_index.proofs.land.renewed_rows.Given as goal

-- the tiles of the rows so far tell of the shapes with the new one, and there is room for the others
abbrev pub invariant-loop-row : goal.invariant-loop-row
invariant-loop-row l =
    ((shapes : Shapes) → All (All (TellsOf shapes)) l.rows → AreTouched (shapes l.number) (option_copied l.shape) l.touched
    → All (All (TellsOf (renewed_at shapes l.number (option_copied l.shape)))) l.after.items)
    × (length l.after.items ≡ l.row-index)
    × (length l.rows ≤ vec_capacity l.after)
