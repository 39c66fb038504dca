use Rattle.std.proofs.Common.{map}
use Rattle.vx_record.specs.Settling.{AreKnownTo}
use Rattle.vx_record.proofs.settling.first_torn.Given as goal

-- all sectors so far are what the keeper has of them
abbrev pub invariant-loop-at : goal.invariant-loop-at
invariant-loop-at g l =
    AreKnownTo l.at (g.S.Place.known l.keeper) (map g.S.Place.sector l.places)
