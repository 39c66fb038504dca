use Rattle.std.proofs.Common.{map, take}
use Rattle.vx_windows.specs.Sectors.{with_changes}
use Rattle.vx_keeper.specs.Busy.{AreNextOf}
use Rattle.vx_keeper.proofs.busy.fresh_of.Given as goal

-- what the sectors so far begin with
abbrev pub invariant-loop-sector : goal.invariant-loop-sector
invariant-loop-sector l =
    AreNextOf (with_changes (map (λ c. c.now) l.cells) l.changes) l.version (take l.sector-index l.busy) l.all.items
