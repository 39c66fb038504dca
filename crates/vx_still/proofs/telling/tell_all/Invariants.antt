use Rattle.std.proofs.Common.{◌≡◌, take}
use Rattle.vx_levels.specs.Linked.{level_at}
use Rattle.vx_still.specs.Telling.{AreTold, KeepsMarks}
use Rattle.vx_still.specs.Unheeded.{IsKept}
use Rattle.vx_still.proofs.telling.tell_all.Given as goal

-- the positions so far are told, and what is kept of the dust is right
pub record Tells (l : goal.Live-loop-p) : Type 0 where
  pub sizes : l.places.sizes ≡ l.fn.places.sizes
  pub kept : KeepsMarks l.fn.places l.places
  pub told : AreTold l.map (level_at l.fn.dust.levels) l.places (take l.p-index l.positions)
  pub levels : l.dust.levels ≡ l.fn.dust.levels
  pub dust : IsKept l.map l.dust

abbrev pub invariant-loop-p : goal.invariant-loop-p
invariant-loop-p l = Tells l
