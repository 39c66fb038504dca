use Rattle.std.proofs.Common.{◌<◌, map, take}
use Rattle.std.specs.List.{All}
use Rattle.vx_record.specs.Settling.{CallerData}
use Rattle.vx_record.proofs.settling.are_below.Given as goal

-- each caller so far has one of the seats
abbrev pub invariant-loop-caller : goal.invariant-loop-caller
invariant-loop-caller g l =
    All (λ (c : CallerData). c.seat < l.seats) (map g.P.Caller.caller (take l.caller-index l.callers))
