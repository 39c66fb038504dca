use Rattle.std.proofs.Common.{◌≡◌}
use Rattle.std.specs.List.{flat_map}
use Rattle.vx_step.proofs.ending_parts.joined.Given as goal

-- the pieces so far, one after another
abbrev pub invariant-loop-piece : goal.invariant-loop-piece
invariant-loop-piece g l = l.all.items ≡ flat_map (λ piece. piece.items) l.yielded
