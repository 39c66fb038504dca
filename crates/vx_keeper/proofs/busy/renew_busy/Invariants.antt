use Rattle.std.proofs.Common.{◌≡◌, ◌≤◌, length, take}
use Rattle.std.specs.Vec.{vec_len, vec_capacity}
use Rattle.vx_windows.specs.Sectors.{renewed_each}
use Rattle.vx_keeper.specs.Busy.{AreKeptOf}
use Rattle.vx_keeper.proofs.busy.renew_busy.Given as goal

-- the sectors so far are in their next windows, and what they had in theirs is kept
abbrev pub invariant-loop-at : goal.invariant-loop-at
invariant-loop-at l = record {
  so_far : l.busy ≡ renewed_each l.fn.busy (take (length l.yielded) l.fn.fresh.items);
  kept : AreKeptOf (take (length l.yielded) l.fn.busy) l.kept.items;
  few : vec_len l.kept ≤ length l.yielded;
  room : length l.fn.busy ≤ vec_capacity l.kept;
}
