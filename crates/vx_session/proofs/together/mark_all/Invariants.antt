use Rattle.std.proofs.Common.{◌≡◌, ◌+◌, ◌≤◌, ◌++◌, ◌∷◌, [], length, map, take, vec_capacity, vec_len}
use Rattle.vx_audit.specs.declared.mark.Mark.TheVariants as mark
use Rattle.vx_session.specs.Blocks.{mark_asked}
use Rattle.vx_session.proofs.together.mark_all.Given as goal

abbrev pub invariant-loop-request : goal.invariant-loop-request
invariant-loop-request l =
    (l.marks.items ≡ (l.fn.marks.items ++ mark.Begin ∷ []) ++ map (mark_asked l.bounds) (take l.request-index l.requests))
    × (vec_len l.marks ≡ vec_len l.fn.marks + 1 + l.request-index)
    × (vec_len l.fn.marks + length l.requests + 2 ≤ vec_capacity l.marks)
