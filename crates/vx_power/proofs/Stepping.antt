-- Dust lies inside the world, and so in the widest one; so does a position around which a sector
-- has all.
use Rattle.std.proofs.Common.{◌≡◌, ℕ, ◌*◌, ◌≤◌, ℤ, true, inl, inr, sym, ap, ◌∙◌, arith}
use Rattle.std.proofs.lemmas.Bool.{and_parts, and_from, cases_Bool, false≢true}
use Rattle.std.proofs.lemmas.Int.{ints}
use Rattle.vx_block.specs.Components.{is_dust}
use Rattle.vx_geom.specs.declared.bounds.TheConstants.{MAX_COLUMNS_EACH_WAY, HIGH_HEIGHT}
use Rattle.vx_geom.specs.declared.pos.Pos.{Pos}
use Rattle.vx_geom.specs.Sizes.{span, is_below, is_inside}
use Rattle.vx_geom.proofs.SectorLemmas.{below_at, below_from}
use Rattle.vx_cells.specs.Maps.{MapData, AreSectors, cell_on, far}
use Rattle.vx_cells.specs.Nearby.{HasAround}
use Rattle.vx_cells.specs.SectorCells.{SectorCells}
use Rattle.vx_cells.proofs.MapLemmas.{outside_is_air, near_inside}
use Rattle.vx_cells.proofs.Nearby.{close_here, inside_around}
use Rattle.vx_power.specs.Levels.{is_place}

pub dust_inside : (m : MapData) (p : Pos) → is_dust (cell_on m p) ≡ true → is_inside m.sizes p ≡ true
dust_inside m p dust = elim (cases_Bool (is_inside m.sizes p)) [
  | inl inside ↦ inside
  | inr outside ↦
      let air = outside_is_air m p (λ inside. false≢true (sym outside ∙ inside)) in
      absurd (false≢true (sym (ap is_dust air) ∙ dust))
]

is_low : (c : ℤ) (n : ℕ) (most : ℕ) → is_below c n ≡ true → n ≤ most → is_below c most ≡ true
is_low c n most below few =
    let at = below_at c n below in below_from c most (omega (arith, ints, at)) (omega (arith, ints, at, few))

-- what lies inside the world lies in the widest one
place_inside : (m : MapData) (p : Pos) → AreSectors m.sizes m.sectors → is_inside m.sizes p ≡ true → is_place p ≡ true
unfolding is_inside
place_inside m p sectors inside =
    let v = m.sizes in
    let near = and_parts (is_below p.x far) _ (near_inside v p sectors.valid inside) in
    let low = and_parts (is_below p.y v.h) (is_below p.z (v.sz * span v)) (and_parts (is_below p.x (v.sx * span v)) _ inside).1 in
    and_from (is_below p.x MAX_COLUMNS_EACH_WAY) _ near.0
    (and_from (is_below p.y HIGH_HEIGHT) (is_below p.z MAX_COLUMNS_EACH_WAY) (is_low p.y v.h HIGH_HEIGHT low.0 sectors.valid.h_most)
    (and_parts (is_below p.y far) (is_below p.z far) near.1).1)

-- so does dust
pub dust_place : (m : MapData) (p : Pos) → AreSectors m.sizes m.sectors → is_dust (cell_on m p) ≡ true
    → is_place p ≡ true
dust_place m p sectors dust = place_inside m p sectors (dust_inside m p dust)

-- and a position around which a sector has all
pub around_place : (m : MapData) (c : SectorCells) (p : Pos) → AreSectors m.sizes m.sectors → HasAround m c p
    → is_place p ≡ true
around_place m c p sectors around =
    place_inside m p sectors (inside_around m c p sectors around p (close_here p))
