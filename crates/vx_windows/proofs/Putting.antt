-- Cells put down in what changes in their sector.
use Rattle.std.proofs.Common.{◌≡◌, ℕ, zero, suc, ◌<◌, true, List, [], ◌∷◌, ◌++◌, length, get_or, set, slice_get, Option, Some, None, unwrap_or, refl, sym, ap, ◌∙◌, arith}
use Rattle.std.specs.List.{All}
use Rattle.std.specs.Option.{option_and_then}
use Rattle.std.proofs.lemmas.Option.{slice_get-get_or, get_or_from_slice_get}
use Rattle.vx_base.proofs.Lists.{set_back, set_found}
use Rattle.vx_block.specs.declared.cell.Cell.{Cell}
use Rattle.vx_geom.specs.declared.pos.Pos.{Pos}
use Rattle.vx_geom.specs.Sizes.{Sizes, sector_of}
use Rattle.vx_cells.specs.Maps.{MapData, AreSectors}
use Rattle.vx_cells.specs.SectorCells.{SectorCells, holds, with_cell, with_cells}
use Rattle.vx_cells.specs.Wholes.{IsMap, set_in, with_cell_on, with_cells_on}
use Rattle.vx_cells.proofs.MapLemmas.{is_there, is_held}
use Rattle.vx_cells.proofs.Setting.{cell_is_set, cell_keeps_map}
use Rattle.vx_windows.specs.Sectors.{AreTogether, map_with_changes, with_changes}
use Rattle.vx_windows.proofs.Changing.{as_many_changed, changed_at, changed_set}

-- cells that lie together lie where the first does
pub where_first : (sizes : Sizes) (o : Option ℕ) (puts : List (Pos × Cell)) (put : Pos × Cell) → 0 < length puts
    → sector_of sizes (get_or puts 0 put).0 ≡ o → AreTogether sizes puts → All (λ q. sector_of sizes q.0 ≡ o) puts
where_first sizes o puts put some first are j e close = sym (are 0 put some j e close) ∙ first

-- some of them are put down first
pub puts_in_parts : (m : MapData) (ps qs : List (Pos × Cell)) → with_cells_on m (ps ++ qs) ≡ with_cells_on (with_cells_on m ps) qs
puts_in_parts m [] qs = refl
puts_in_parts m (put ∷ ps) qs = puts_in_parts (unwrap_or (with_cell_on m put.0 put.1) m) ps qs

-- nothing is put down outside the world
outside : (m : MapData) (p : Pos) (cell : Cell) → sector_of m.sizes p ≡ None → with_cell_on m p cell ≡ None
unfolding with_cell_on
outside m p cell none = ap (option_and_then (λ k. set_in m p cell k (slice_get m.sectors k))) none

pub all_outside : (m : MapData) (puts : List (Pos × Cell)) → All (λ put. sector_of m.sizes put.0 ≡ None) puts → with_cells_on m puts ≡ m
all_outside m [] none = refl
all_outside m (put ∷ puts) none =
    ap (λ o. with_cells_on (unwrap_or o m) puts) (outside m put.0 put.1 (none 0 put (omega arith)))
    ∙ all_outside m puts (λ j d near. none (suc j) d (omega (arith, near)))

-- what is written over twice
pub set_again : {X : Type 0} (xs : List X) (k : ℕ) (x y : X) → set (set xs k x) k y ≡ set xs k y
set_again [] k x y = refl
set_again (z ∷ xs) zero x y = refl
set_again (z ∷ xs) (suc k) x y = ap (λ ys. z ∷ ys) (set_again xs k x y)

-- cells put down in the sector of one number
in_sector : (m : MapData) (puts : List (Pos × Cell)) (k : ℕ) (c : SectorCells) → IsMap m → slice_get m.sectors k ≡ Some c
    → All (λ put. sector_of m.sizes put.0 ≡ Some k) puts → with_cells_on m puts ≡ record m { sectors = set m.sectors k (with_cells c puts) }
in_sector m [] k c whole found are =
    ap (λ cs. record m { sectors = cs }) (sym (set_back m.sectors k c (sym (get_or_from_slice_get m.sectors k c c found))))
in_sector m (put ∷ puts) k c whole found are =
    let here = are 0 put (omega arith) in
    let d = with_cell c put.0 put.1 in
    let next : MapData = record m { sectors = set m.sectors k d } in
    let made : with_cell_on m put.0 put.1 ≡ Some next = cell_is_set m put.0 put.1 k c d here found (is_held m put.0 k here c whole found) refl in
    ap (λ o. with_cells_on (unwrap_or o m) puts) made
    ∙ in_sector next puts k d (cell_keeps_map m next put.0 put.1 whole made) (set_found m.sectors k c d found)
    (λ j e near. are (suc j) e (omega (arith, near)))
    ∙ ap (λ cs. record m { sectors = cs }) (set_again m.sectors k d (with_cells d puts))

module _ (sizes : Sizes) (cs : List SectorCells) (ys : List (Option SectorCells))
    (placed : AreSectors sizes (with_changes cs ys)) (each : length ys ≡ length cs)
    (p : Pos) (k : ℕ) (found : sector_of sizes p ≡ Some k) where
  -- there is a sector of that number, and something or nothing for it
  pub there : k < length cs
  there = omega (arith, is_there sizes (with_changes cs ys) p k found placed, as_many_changed cs ys)

  pub given : k < length ys
  given = omega (arith, there, each)

  -- its cells as they are so far
  module _ (y : Option SectorCells) (c : SectorCells) where
    abbrev so_far : SectorCells
    so_far = unwrap_or (get_or ys k y) (get_or cs k c)

    stands : slice_get (with_changes cs ys) k ≡ Some so_far
    stands =
        slice_get-get_or (with_changes cs ys) k c (is_there sizes (with_changes cs ys) p k found placed)
        ∙ ap Some (changed_at cs ys k y c given there)

    module _ (puts : List (Pos × Cell)) (are : All (λ put. sector_of sizes put.0 ≡ Some k) puts) where
      pub held : All (λ put. holds so_far put.0 ≡ true) puts
      held j put near = is_held (map_with_changes sizes cs ys) (get_or puts j put).0 k (are j put near) so_far placed stands

      -- the map with these cells put down
      pub put_down : (d : SectorCells) → d ≡ with_cells so_far puts
          → with_cells_on (map_with_changes sizes cs ys) puts ≡ map_with_changes sizes cs (set ys k (Some d))
      put_down d made =
          in_sector (map_with_changes sizes cs ys) puts k so_far placed stands are
          ∙ ap (λ c. record { sizes = sizes; sectors = set (with_changes cs ys) k c }) (sym made)
          ∙ ap (λ cs. record { sizes = sizes; sectors = cs }) (sym (changed_set cs ys k d given))
