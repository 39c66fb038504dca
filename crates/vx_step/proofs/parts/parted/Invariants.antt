use Rattle.std.proofs.Common.{◌≡◌, map}
use Rattle.std.specs.List.{flat_map}
use Rattle.vx_step.proofs.parts.parted.Given as goal

-- the pieces so far, taken apart
abbrev pub invariant-loop-piece : goal.invariant-loop-piece
invariant-loop-piece l = record {
  changes : l.all_changes.items ≡ map (λ piece. piece.changes) l.yielded;
  moves : l.all_moves.items ≡ flat_map (λ piece. piece.moves.items) l.yielded;
}
