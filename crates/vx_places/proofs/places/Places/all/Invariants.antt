use Rattle.std.proofs.Common.{◌≡◌, ◌&&◌, nat_eq}
use Rattle.std.specs.List.{list_any}
use Rattle.vx_geom.specs.declared.pos.Pos.{Pos}
use Rattle.vx_places.specs.Places.{is_at, steps_between}
use Rattle.vx_places.proofs.Finding.{is_before}
use Rattle.vx_places.proofs.places.Places.all.Given as goal

-- those of the sectors so far are found
abbrev pub invariant-loop-sector : goal.invariant-loop-sector
invariant-loop-sector l = (p : Pos)
    → list_any (λ q. nat_eq (steps_between q p) 0) l.found.items ≡ (is_at l.self p && is_before l.self.sizes l.sector p)
