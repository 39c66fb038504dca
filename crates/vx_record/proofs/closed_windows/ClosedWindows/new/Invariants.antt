use Rattle.std.proofs.Common.{◌≡◌, ◌≤◌, length, map, take}
use Rattle.std.specs.Vec.{vec_len, vec_capacity}
use Rattle.vx_windows.specs.Sectors.{entries_in}
use Rattle.vx_record.specs.Kept.{busy_count, windows_kept, AreInOrder}
use Rattle.vx_record.proofs.closed_windows.ClosedWindows.new.Given as goal

-- the windows so far are kept, and there is room for those that are left
abbrev pub invariant-loop-sector : goal.invariant-loop-sector
invariant-loop-sector l = record {
  so_far : windows_kept (length l.yielded) l.kept.items ≡ take (length l.yielded) (map entries_in l.fn.windows.items);
  in_order : AreInOrder (length l.yielded) l.kept.items;
  long : vec_len l.kept ≡ busy_count (take (length l.yielded) (map entries_in l.fn.windows.items));
  room : busy_count (map entries_in l.fn.windows.items) ≤ vec_capacity l.kept;
}
