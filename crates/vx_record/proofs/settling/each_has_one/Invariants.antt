use Rattle.std.proofs.Common.{◌≡◌, ◌<◌, ℕ, map}
use Rattle.vx_record.specs.Settling.{callers_at}
use Rattle.vx_record.proofs.settling.each_has_one.Given as goal

-- each seat so far has one caller
abbrev pub invariant-loop-seat : goal.invariant-loop-seat
invariant-loop-seat g l =
    (seat : ℕ) → seat < l.seat → callers_at seat (map g.P.Caller.caller l.callers) ≡ 1
