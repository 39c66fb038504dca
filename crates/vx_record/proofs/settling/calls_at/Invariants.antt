use Rattle.std.proofs.Common.{◌≡◌, length, map, take}
use Rattle.std.specs.List.{All}
use Rattle.vx_windows.specs.declared.limits.TheConstants.{MAX_PLAYERS}
use Rattle.vx_record.proofs.Behind.{IsPut}
use Rattle.vx_record.proofs.settling.calls_at.Given as goal

-- the lists of the callers so far stand in the table
abbrev pub invariant-loop-caller : goal.invariant-loop-caller
invariant-loop-caller g l =
    (length l.table ≡ MAX_PLAYERS) × All (IsPut (map (λ calls. calls.now) l.table) l.at)
    (take l.caller-index (map g.P.Caller.caller l.callers))
