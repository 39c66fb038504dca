use Rattle.std.proofs.Common.{◌≡◌, not, ◌&&◌, nat_eq, take}
use Rattle.std.specs.List.{list_any}
use Rattle.vx_geom.specs.declared.pos.Pos.{Pos}
use Rattle.vx_places.specs.Places.{is_at, steps_between}
use Rattle.vx_places.proofs.places.Places.forget_all.Given as goal

-- the positions so far are taken away
abbrev pub invariant-loop-p : goal.invariant-loop-p
invariant-loop-p l =
    (l.self.sizes ≡ l.fn.self.sizes)
    × ((q : Pos) → is_at l.self q
    ≡ (is_at l.fn.self q && not (list_any (λ p. nat_eq (steps_between p q) 0) (take l.p-index l.places))))
