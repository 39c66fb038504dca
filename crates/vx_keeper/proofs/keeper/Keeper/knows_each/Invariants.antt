use Rattle.std.proofs.Common.{◌<◌, take}
use Rattle.std.specs.List.{All}
use Rattle.vx_keeper.specs.Busy.{AreBusyOf}
use Rattle.vx_keeper.proofs.keeper.Keeper.knows_each.Given as goal

-- all sectors so far are what the keeper has of them, and of numbers below the least of the next
abbrev pub invariant-loop-at : goal.invariant-loop-at
invariant-loop-at g l =
    AreBusyOf l.self (take l.at l.sectors) × All (λ s. s.base.sector < l.least) (take l.at l.sectors)
