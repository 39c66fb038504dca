use Rattle.std.specs.Prelude.{◌≡◌, ℕ, ◌+◌, ◌≤◌, ◌↔◌}
use Rattle.vx_geom.specs.declared.dir.Dir.{Dir}
use Rattle.vx_geom.specs.declared.pos.Pos.{Pos}
use Rattle.vx_geom.specs.Neighbor.{neighbor}
use Rattle.vx_places.specs.Places.{steps_between}

-- no steps lead from one position to another exactly where they are one
abbrev pub NoStepsIsOnePlace : Type 0
NoStepsIsOnePlace = (p q : Pos) → (steps_between p q ≡ 0) ↔ (p ≡ q)

-- from a position next to one from which so many steps lead somewhere, at most one more leads there
abbrev pub OneStepIsOneMore : Type 0
OneStepIsOneMore = (p q : Pos) (d : Dir) (n : ℕ)
    → steps_between (neighbor p d) q ≤ n → steps_between p q ≤ n + 1
