use Rattle.std.proofs.Common.{◌≡◌, ◌+◌, ◌-◌, ◌∷◌, length, option_map}
use Rattle.vx_piston.specs.declared.moves.TheConstants.{MAX_ROW}
use Rattle.vx_geom.specs.Neighbor.{neighbor}
use Rattle.vx_piston.specs.Moves.{most_pushed, row}
use Rattle.vx_piston.proofs.Rows.{followed}
use Rattle.vx_piston.proofs.candidates.row.Given as goal

-- what was taken and then the row from here is the row from the start
abbrev pub invariant-loop : goal.invariant-loop
invariant-loop l = record {
  len : length l.cells.items ≡ l.counter + 1;
  rest : followed l.cells.items (row l.map l.facing (MAX_ROW - l.counter) (neighbor l.last l.facing))
      ≡ option_map (λ ps. l.fn.p ∷ ps) (row l.map l.facing (most_pushed + 1) (neighbor l.fn.p l.facing));
}
