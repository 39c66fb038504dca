use Rattle.std.proofs.Common.{true, take, drop}
use Rattle.vx_index.specs.Patches.{AreInOrder}
use Rattle.vx_index.proofs.Listed.{Listed}
use Rattle.vx_index.proofs.tile.numbers_of.Given as goal

-- the numbers of the patches so far are listed
abbrev pub invariant-loop-patch : goal.invariant-loop-patch
invariant-loop-patch l = AreInOrder 0 l.patches → Listed (λ d. true) (take l.patch-index l.patches) (drop l.patch-index l.patches) l.numbers.items l.last
