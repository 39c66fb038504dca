use Rattle.std.proofs.Common.{ℕ, ◌+◌, ◌<◌, [], map, get_or}
use Rattle.std.specs.List.{All}
use Rattle.vx_record.specs.Rests.{lists_in}
use Rattle.vx_record.proofs.Behind.{IsPut}
use Rattle.vx_record.proofs.settling.put_calls.Given as goal

-- the calls stand in the tables so far
abbrev pub invariant-loop-at : goal.invariant-loop-at
invariant-loop-at g l =
    (at : ℕ) → at < l.at
    → All (IsPut (get_or (map lists_in l.tables) at []) (l.first + at))
    (map g.P.Caller.caller l.callers)
