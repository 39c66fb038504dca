use Rattle.std.proofs.Common.{nat_eq, take}
use Rattle.std.specs.List.{list_any}
use Rattle.vx_places.specs.Around.{Adds}
use Rattle.vx_places.specs.Places.{steps_between}
use Rattle.vx_places.proofs.places.Places.mark_all.Given as goal

-- the positions so far are added
abbrev pub invariant-loop-p : goal.invariant-loop-p
invariant-loop-p l =
    Adds (λ q. list_any (λ p. nat_eq (steps_between p q) 0) (take l.p-index l.places)) l.fn.self l.self
