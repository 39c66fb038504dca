use Rattle.std.specs.List.{All}
use Rattle.vx_index.specs.Cuts.{IsRowOf}
use Rattle.vx_index.proofs.cut.rows_from.Given as goal

-- each row so far is one of the shape's
abbrev pub invariant-loop-z : goal.invariant-loop-z
invariant-loop-z l = All (IsRowOf l.shape) l.rows.items
