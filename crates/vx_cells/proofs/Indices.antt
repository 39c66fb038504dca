-- Positions that a sector holds, and the indices of their cells.
use Rattle.std.proofs.Common.{◌≡◌, ℕ, ◌<◌, Bool, true, false, Option, Some, None, nat_eq, if◌then◌else◌, refl, ap, sym, ◌∙◌}
use Rattle.std.specs.Option.{option_map_or}
use Rattle.std.proofs.lemmas.Bool.{eqb-true}
use Rattle.vx_geom.specs.declared.pos.Pos.{Pos}
use Rattle.vx_geom.specs.Sizes.{Sizes, AreSizes, sector_cells, sector_count, is_inside, sector_number, sector_of, index_in_sector}
use Rattle.vx_geom.proofs.Places as places
use Rattle.vx_geom.proofs.SectorLemmas as geom
use Rattle.vx_cells.specs.SectorCells.{SectorCells, holds}

is_some_at : (n : ℕ) (o : Option ℕ) → option_map_or (nat_eq n) o false ≡ true → o ≡ Some n
is_some_at n None h = cc
is_some_at n (Some k) h = ap Some (sym (eqb-true n k h))

-- a position that is of the sector has its number
pub sector_at : (c : SectorCells) (p : Pos) → holds c p ≡ true → sector_of c.bounds p ≡ Some c.sector
unfolding holds
sector_at c p h = is_some_at c.sector (sector_of c.bounds p) h

chosen : (b : Bool) (n k : ℕ) → (if b then Some n else None) ≡ Some k → b ≡ true
chosen true n k h = refl
chosen false n k h = cc

inside_at : (v : Sizes) (p : Pos) (k : ℕ) → sector_of v p ≡ Some k → is_inside v p ≡ true
unfolding sector_of
inside_at v p k h = chosen (is_inside v p) (sector_number v p) k h

-- and is inside the world
pub inside_from_holds : (c : SectorCells) (p : Pos) → holds c p ≡ true → is_inside c.bounds p ≡ true
inside_from_holds c p h = inside_at c.bounds p c.sector (sector_at c p h)

-- one with the same number is of it, too
pub same_held : (c : SectorCells) (p q : Pos) → sector_of c.bounds q ≡ sector_of c.bounds p → holds c p ≡ true → holds c q ≡ true
unfolding holds
same_held c p q same held = ap (λ s. option_map_or (nat_eq c.sector) s false) same ∙ held

-- every position of a sector has an index among its cells
pub index_below : (v : Sizes) (p : Pos) → AreSizes v → is_inside v p ≡ true → index_in_sector v p < sector_cells v
index_below v p sizes inside = places.index_below v p sizes (geom.inside_at v p inside)

-- a position inside is of the sector of its number
pub numbered : (v : Sizes) (p : Pos) → is_inside v p ≡ true → sector_of v p ≡ Some (sector_number v p)
unfolding sector_of
numbered v p inside = ap (λ b. if b then Some (sector_number v p) else None) inside

-- and that is the number of a sector
pub number_below : (v : Sizes) (p : Pos) → AreSizes v → is_inside v p ≡ true → sector_number v p < sector_count v
number_below v p sizes inside =
    (geom.in_sector v p (sector_number v p) sizes (geom.held_at v p (sector_number v p) sizes (numbered v p inside))).0
