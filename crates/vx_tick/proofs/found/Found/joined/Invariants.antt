use Rattle.std.proofs.Common.{◌≡◌}
use Rattle.std.specs.List.{flat_map}
use Rattle.vx_tick.proofs.found.Found.joined.Given as goal

-- the pieces so far, one after another
abbrev pub invariant-loop-piece : goal.invariant-loop-piece
invariant-loop-piece l = record {
  changes : l.all_changes.items ≡ flat_map (λ piece. piece.changes.items) l.yielded;
  restless : l.all_restless.items ≡ flat_map (λ piece. piece.restless.items) l.yielded;
  moves : l.all_moves.items ≡ flat_map (λ piece. piece.moves.items) l.yielded;
}
