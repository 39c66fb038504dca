use Rattle.std.proofs.Common.{◌≡◌, ◌≤◌, length, map, take}
use Rattle.std.specs.Vec.{vec_len, vec_capacity}
use Rattle.vx_windows.specs.Sectors.{nexts, renewed_each, entries_in, entries_of}
use Rattle.vx_windows.proofs.windows.renew_sectors.Given as goal

-- the sectors so far are in their next windows, and the records of those that this closed are handed out
abbrev pub invariant-loop-next : goal.invariant-loop-next
invariant-loop-next l =
    (l.sectors ≡ renewed_each l.fn.sectors (nexts l.tick l.fn.sectors l.yielded))
    × (map entries_in l.windows.items ≡ map entries_of (take (length l.yielded) l.fn.sectors))
    × (vec_len l.windows ≡ length l.yielded)
    × (length l.fn.sectors ≤ vec_capacity l.windows)
