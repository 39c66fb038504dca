use Rattle.std.proofs.Common.{◌≡◌, ℕ, ◌+◌, ◌<◌, ◌≤◌, [], List, map, get_or}
use Rattle.vx_record.specs.Settling.{sector_in, open_entries}
use Rattle.vx_record.specs.Rests.{lists_in, AreSaid}
use Rattle.vx_record.specs.declared.call.Call.{Call}
use Rattle.vx_record.proofs.settling.first_unsaid.Given as goal

-- the calls in the tables so far were those in the open windows, and the tables from here on are as
-- they were
abbrev pub invariant-loop-at : goal.invariant-loop-at
invariant-loop-at g l =
    let before : List (List (List Call)) = map lists_in l.fn.tables in
    record {
      said : (at : ℕ) → at < l.at → AreSaid l.seats (get_or before at [])
          (open_entries (sector_in (map g.S.Place.sector l.places) (l.first + at)));
      still : (at : ℕ) → l.at ≤ at
          → get_or (map lists_in l.tables) at [] ≡ get_or before at [];
    }
