use Rattle.std.proofs.Common.{map, Some}
use Rattle.vx_record.specs.Settling.{AreKnownTo}
use Rattle.vx_keeper.specs.Keepers.{known}
use Rattle.vx_keeper.proofs.keeper.Keeper.first_torn.Given as goal

-- all sectors so far are what the keeper has of them
abbrev pub invariant-loop-number : goal.invariant-loop-number
invariant-loop-number g l = AreKnownTo l.number (known l.self) (map Some l.sectors)
