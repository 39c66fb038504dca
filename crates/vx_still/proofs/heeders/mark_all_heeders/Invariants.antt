use Rattle.std.proofs.Common.{◌≡◌, take}
use Rattle.vx_still.specs.Telling.{AreMarkedFrom, KeepsMarks}
use Rattle.vx_still.proofs.heeders.mark_all_heeders.Given as goal

-- what heeds the positions so far is marked
pub record Marks (l : goal.Live-loop-p) : Type 0 where
  pub sizes : l.places.sizes ≡ l.fn.places.sizes
  pub kept : KeepsMarks l.fn.places l.places
  pub marked : AreMarkedFrom l.map l.places (take l.p-index l.positions)

abbrev pub invariant-loop-p : goal.invariant-loop-p
invariant-loop-p l = Marks l
