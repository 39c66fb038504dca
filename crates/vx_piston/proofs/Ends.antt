-- What lies past the end of the world.
use Rattle.std.proofs.Common.{◌≡◌, ℕ, ℤ, pos, ◌*◌, Bool, true, false, inl, inr, [], ◌∷◌, ◌++◌, if◌then◌else◌, refl, sym, ap, ◌∙◌, arith}
use Rattle.std.specs.Prelude.{◌+ℤ◌, ◌-ℤ◌}
use Rattle.std.proofs.lemmas.Bool.{and_parts, and_from, cases_Bool, false≢true}
use Rattle.std.proofs.lemmas.Int.{ints}
use Rattle.vx_block.specs.declared.cell.Cell.{Cell}
use Rattle.vx_block.specs.declared.cell.Cell.TheVariants.{Air, Piston}
use Rattle.vx_cells.specs.Maps.{MapData, cell_on}
use Rattle.vx_cells.proofs.MapLemmas.{outside_is_air}
use Rattle.vx_geom.specs.declared.dir.Dir.{Dir}
use Rattle.vx_geom.specs.declared.dir.Dir.TheVariants.{East, West, Up, Down, South, North}
use Rattle.vx_geom.specs.declared.pos.Pos.{Pos}
use Rattle.vx_geom.specs.Neighbor.{neighbor}
use Rattle.vx_geom.specs.Sizes.{Sizes, span, is_below, is_inside}
use Rattle.vx_geom.proofs.SectorLemmas.{below_at, below_from}
use Rattle.vx_piston.specs.Moves.{if_inside, pulled}

-- a coordinate between two of the world is one of it, on the way up
after_it : (c : ℤ) (n : ℕ) → is_below c n ≡ true → is_below ((c +ℤ pos 1) +ℤ pos 1) n ≡ true
    → is_below (c +ℤ pos 1) n ≡ true
after_it c n here further =
    let low = below_at c n here in
    let high = below_at ((c +ℤ pos 1) +ℤ pos 1) n further in
    below_from (c +ℤ pos 1) n (omega (arith, ints, low, high)) (omega (arith, ints, low, high))

-- and on the way down
before_it : (c : ℤ) (n : ℕ) → is_below c n ≡ true → is_below ((c -ℤ pos 1) -ℤ pos 1) n ≡ true
    → is_below (c -ℤ pos 1) n ≡ true
before_it c n here further =
    let high = below_at c n here in
    let low = below_at ((c -ℤ pos 1) -ℤ pos 1) n further in
    below_from (c -ℤ pos 1) n (omega (arith, ints, low, high)) (omega (arith, ints, low, high))

-- a position of the world has each coordinate in it
record InWorld (v : Sizes) (p : Pos) : Type 0 where
  x : is_below p.x (v.sx * span v) ≡ true
  y : is_below p.y v.h ≡ true
  z : is_below p.z (v.sz * span v) ≡ true

-- what is inside is in the world
in_world : (v : Sizes) (p : Pos) → is_inside v p ≡ true → InWorld v p
unfolding is_inside
in_world v p inside =
    let parts = and_parts _ _ inside in
    let rest = and_parts _ _ parts.1 in
    record { x = parts.0; y = rest.0; z = rest.1 }

-- and what is in the world is inside
from_world : (v : Sizes) (p : Pos) → InWorld v p → is_inside v p ≡ true
unfolding is_inside
from_world v p in_it = and_from _ _ in_it.x (and_from _ _ in_it.y in_it.z)

-- a position between two of the world is one of it
lies_between : (v : Sizes) (p : Pos) (d : Dir) → InWorld v p → InWorld v (neighbor (neighbor p d) d)
    → InWorld v (neighbor p d)
lies_between v p East a b = record { x = after_it p.x (v.sx * span v) a.x b.x; y = a.y; z = a.z }
lies_between v p West a b = record { x = before_it p.x (v.sx * span v) a.x b.x; y = a.y; z = a.z }
lies_between v p Up a b = record { x = a.x; y = after_it p.y v.h a.y b.y; z = a.z }
lies_between v p Down a b = record { x = a.x; y = before_it p.y v.h a.y b.y; z = a.z }
lies_between v p South a b = record { x = a.x; y = a.y; z = after_it p.z (v.sz * span v) a.z b.z }
lies_between v p North a b = record { x = a.x; y = a.y; z = before_it p.z (v.sz * span v) a.z b.z }

-- from a position of the world, what lies one past its end is outside too
pub further_outside : (v : Sizes) (p : Pos) (d : Dir) → is_inside v p ≡ true
    → (is_inside v (neighbor p d) ≡ true → ⊥) → is_inside v (neighbor (neighbor p d) d) ≡ false
further_outside v p d inside outside = elim (cases_Bool (is_inside v (neighbor (neighbor p d) d))) [
  | inl further ↦ absurd (outside (from_world v (neighbor p d)
      (lies_between v p d (in_world v p inside) (in_world v (neighbor (neighbor p d) d) further))))
  | inr further ↦ further
]

-- no cell outside the world is taken
none_inside : (m : MapData) (p : Pos) → (is_inside m.sizes p ≡ true → ⊥) → if_inside m p ≡ []
none_inside m p outside = elim (cases_Bool (is_inside m.sizes p)) [
  | inl inside ↦ absurd (outside inside)
  | inr outside ↦ ap (λ b. if b then p ∷ [] else []) outside
]

-- and none is pulled
none_pulled : (m : MapData) (d : Dir) (sticky : Bool) (p : Pos) → is_inside m.sizes p ≡ false
    → pulled m d sticky p ≡ []
unfolding pulled
none_pulled m d false p outside = refl
none_pulled m d true p outside = rw outside refl

-- a piston whose head would be outside takes its own cell alone as it draws back
pub drawn_alone : (m : MapData) (d : Dir) (sticky : Bool) (p : Pos) → is_inside m.sizes p ≡ true
    → (is_inside m.sizes (neighbor p d) ≡ true → ⊥)
    → p ∷ [] ≡ p ∷ (if_inside m (neighbor p d) ++ pulled m d sticky (neighbor (neighbor p d) d))
drawn_alone m d sticky p inside outside =
    rw (none_inside m (neighbor p d) outside)
    (rw (none_pulled m d sticky (neighbor (neighbor p d) d)
    (further_outside m.sizes p d inside outside)) refl)

-- air is no piston
abbrev is_air : Cell → Bool
is_air Air = true
is_air _ = false

-- a piston stands inside the world
pub piston_inside : (m : MapData) (p : Pos) (d : Dir) (sticky out : Bool)
    → Piston d sticky out ≡ cell_on m p → is_inside m.sizes p ≡ true
piston_inside m p d sticky out stands = elim (cases_Bool (is_inside m.sizes p)) [
  | inl inside ↦ inside
  | inr outside ↦ absurd (false≢true (ap is_air
      (stands ∙ outside_is_air m p (λ inside. false≢true (sym outside ∙ inside)))))
]
