use Rattle.std.proofs.Common.{◌≡◌, ◌+◌, ◌≤◌, true, length, map}
use Rattle.std.specs.List.{All, sum_by}
use Rattle.std.specs.Vec.{vec_len, vec_capacity}
use Rattle.vx_windows.specs.Sectors.{entries_in}
use Rattle.vx_record.specs.Settling.{open_entries}
use Rattle.vx_world.specs.Settlements.{count_here, is_home, sector_here, IsWindowHere}
use Rattle.vx_world.proofs.settling.place_shares.Given as goal

-- the shares so far are joined, and the windows, which each is one, handed out; the other sectors
-- are at home
abbrev pub invariant-loop-slot : goal.invariant-loop-slot
invariant-loop-slot g l =
    (l.all.parts ≡ l.fn.of_passes.parts + length l.yielded) × (l.all.amount ≡ sum_by count_here l.yielded)
    × (map entries_in l.windows.items ≡ map (λ slot. open_entries (sector_here slot)) l.yielded)
    × (vec_len l.windows + length l.slot-iterator.rest.items ≡ vec_len l.fn.slots)
    × (vec_len l.fn.slots ≤ vec_capacity l.windows)
    × All (λ slot. is_home slot ≡ true) l.slot-iterator.rest.items
    × All (λ slot. IsWindowHere (sector_here slot)) l.yielded
