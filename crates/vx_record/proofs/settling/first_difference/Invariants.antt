use Rattle.std.proofs.Common.{ℕ, ◌-◌, ◌<◌, length, map}
use Rattle.std.specs.List.{All}
use Rattle.vx_record.specs.Settling.{CallerData, Agrees}
use Rattle.vx_record.proofs.settling.first_difference.Given as goal

-- the callers' lists for the sectors so far are what the record says
abbrev pub invariant-loop-first : goal.invariant-loop-first
invariant-loop-first g l =
    (k : ℕ) → k < l.first
    → All (λ (c : CallerData). Agrees l.archive.chronicle.ticks (map g.S.Place.sector l.places) c k)
    (map g.P.Caller.caller l.callers)

abbrev pub decreases-loop-first : goal.decreases-loop-first
decreases-loop-first g l = length l.places - l.first
