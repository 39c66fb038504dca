use Rattle.std.proofs.Common.{◌≡◌, ℕ, true, ◌++◌, drop}
use Rattle.std.specs.List.{All}
use Rattle.vx_cells.specs.Maps.{cell_on}
use Rattle.vx_geom.specs.declared.pos.Pos.{Pos}
use Rattle.vx_piston.specs.Moves.{is_restless}
use Rattle.vx_tick.specs.Ticks.{asked}
use Rattle.vx_tick.proofs.found.moves_among.Given as goal

-- what was found, and what is asked for among what is left
abbrev pub invariant-loop-p : goal.invariant-loop-p
invariant-loop-p l = (level : Pos → ℕ)
    → All (λ p. is_restless (cell_on l.map) level p ≡ true) l.restless
    → l.moves.items ++ asked l.map level (drop l.p-index l.restless)
    ≡ asked l.map level l.restless
