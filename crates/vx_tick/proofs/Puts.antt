-- What stands at a position once cells were put down one after another.
use Rattle.std.proofs.Common.{◌≡◌, ◌≢◌, ◌⊎◌, Bool, true, false, inl, inr, List, [], ◌∷◌, ◌++◌, Option, Some, None, is_some, unwrap_or, refl, sym, ap, ◌∙◌}
use Rattle.std.proofs.lemmas.Bool.{false≢true, true≢false}
use Rattle.vx_geom.specs.declared.pos.Pos.{Pos}
use Rattle.vx_geom.specs.Sizes.{is_inside}
use Rattle.vx_block.specs.declared.cell.Cell.{Cell}
use Rattle.vx_cells.specs.MapLaws.{block_on, IsFilled}
use Rattle.vx_cells.specs.Maps.{MapData}
use Rattle.vx_cells.specs.SectorCells.{placed}
use Rattle.vx_cells.specs.Wholes.{with_cell_on, with_cells_on}
use Rattle.vx_cells.proofs.Putting.{put_inside, put_stays_filled, put_cell_is_read, others_stay}
use Rattle.vx_power.specs.Levels.{same_place}
use Rattle.vx_power.specs.Walks.{IsAmong}
use Rattle.vx_power.proofs.Having.{place_is, place_of}

-- two positions are one, or two
pub cases_place : (p q : Pos) → (p ≡ q) ⊎ (p ≢ q)
cases_place p q = by (same_place p q) refl
  where
    by : (b : Bool) → same_place p q ≡ b → (p ≡ q) ⊎ (p ≢ q)
    by true is = inl (place_is p q is)
    by false is = inr (λ same. true≢false (sym (place_of p q same) ∙ is))

-- the map with one cell more, where that lies inside
abbrev with_one : MapData → Pos → Cell → MapData
with_one m q cell = unwrap_or (with_cell_on m q cell) m

module _ (m : MapData) (q : Pos) (cell : Cell) (filled : IsFilled m) where
  one_filled : IsFilled (with_one m q cell) × ((with_one m q cell).sizes ≡ m.sizes)
  one_filled = by (with_cell_on m q cell) refl
    where
      by : (o : Option MapData) → with_cell_on m q cell ≡ o
          → IsFilled (unwrap_or o m) × ((unwrap_or o m).sizes ≡ m.sizes)
      by None made = (filled, refl)
      by (Some next) made = put_stays_filled m next q cell filled made

  module _ (p : Pos) where
    elsewhere : p ≢ q → block_on (with_one m q cell) p ≡ block_on m p
    elsewhere differ = by (with_cell_on m q cell) refl
      where
        by : (o : Option MapData) → with_cell_on m q cell ≡ o → block_on (unwrap_or o m) p ≡ block_on m p
        by None made = refl
        by (Some next) made = others_stay m next q p cell filled made differ

    put_there : p ≡ q → is_inside m.sizes p ≡ true → block_on (with_one m q cell) p ≡ placed cell
    put_there same inside = by (with_cell_on m q cell) refl
      where
        by : (o : Option MapData) → with_cell_on m q cell ≡ o → block_on (unwrap_or o m) p ≡ placed cell
        by None made =
            absurd (false≢true (sym (ap is_some made) ∙ put_inside m q cell filled
            ∙ ap (is_inside m.sizes) (sym same) ∙ inside))
        by (Some next) made = ap (block_on next) same ∙ put_cell_is_read m next q cell filled made

    -- a cell that is put where it stands already
    stands_on : p ≡ q → block_on m p ≡ placed cell → block_on (with_one m q cell) p ≡ placed cell
    stands_on same stands = by (with_cell_on m q cell) refl
      where
        by : (o : Option MapData) → with_cell_on m q cell ≡ o → block_on (unwrap_or o m) p ≡ placed cell
        by None made = stands
        by (Some next) made = ap (block_on next) same ∙ put_cell_is_read m next q cell filled made

-- cells one after another
pub cells_joined : (m : MapData) (xs ys : List (Pos × Cell))
    → with_cells_on m (xs ++ ys) ≡ with_cells_on (with_cells_on m xs) ys
cells_joined m [] ys = refl
cells_joined m (x ∷ xs) ys = cells_joined (unwrap_or (with_cell_on m x.0 x.1) m) xs ys

-- the world stays as large, with something at each place
pub puts_filled : (m : MapData) (puts : List (Pos × Cell)) → IsFilled m
    → IsFilled (with_cells_on m puts) × ((with_cells_on m puts).sizes ≡ m.sizes)
puts_filled m [] filled = (filled, refl)
puts_filled m (put ∷ puts) filled =
    let one = one_filled m put.0 put.1 filled in
    let rest = puts_filled (with_one m put.0 put.1) puts one.0 in
    (rest.0, rest.1 ∙ one.1)

-- where none of them is put down all stays
pub none_put : (m : MapData) (puts : List (Pos × Cell)) (p : Pos) → IsFilled m
    → ((cell : Cell) → IsAmong puts (p, cell) → ⊥)
    → block_on (with_cells_on m puts) p ≡ block_on m p
none_put m [] p filled none = refl
none_put m (put ∷ puts) p filled none =
    none_put (with_one m put.0 put.1) puts p (one_filled m put.0 put.1 filled).0
    (λ cell among. none cell (inr among))
    ∙ elsewhere m put.0 put.1 filled p (λ same. none put.1 (inl (λ i. (sym same i, put.1))))

-- where each of them that is put down is the cell that stands there it goes on standing there
stays_put : (m : MapData) (puts : List (Pos × Cell)) (p : Pos) (cell : Cell) → IsFilled m
    → ((other : Cell) → IsAmong puts (p, other) → other ≡ cell)
    → block_on m p ≡ placed cell → block_on (with_cells_on m puts) p ≡ placed cell
stays_put m [] p cell filled same stands = stands
stays_put m (put ∷ puts) p cell filled same stands =
    stays_put (with_one m put.0 put.1) puts p cell (one_filled m put.0 put.1 filled).0
    (λ other among. same other (inr among)) (after (cases_place p put.0))
  where
    after : (p ≡ put.0) ⊎ (p ≢ put.0) → block_on (with_one m put.0 put.1) p ≡ placed cell
    after (inl here) =
        let is : put.1 ≡ cell = same put.1 (inl (λ i. (sym here i, put.1))) in
        stands_on m put.0 put.1 filled p here (stands ∙ ap placed (sym is)) ∙ ap placed is
    after (inr differ) = elsewhere m put.0 put.1 filled p differ ∙ stands

-- and where it is put down it stands from then on
pub all_put : (m : MapData) (puts : List (Pos × Cell)) (p : Pos) (cell : Cell) → IsFilled m
    → is_inside m.sizes p ≡ true
    → ((other : Cell) → IsAmong puts (p, other) → other ≡ cell)
    → IsAmong puts (p, cell) → block_on (with_cells_on m puts) p ≡ placed cell
all_put m [] p cell filled inside same among = absurd among
all_put m (put ∷ puts) p cell filled inside same (inl here) =
    stays_put (with_one m put.0 put.1) puts p cell (one_filled m put.0 put.1 filled).0
    (λ other among. same other (inr among))
    (put_there m put.0 put.1 filled p (sym (ap (λ x. x.0) here)) inside ∙ ap (λ x. placed x.1) here)
all_put m (put ∷ puts) p cell filled inside same (inr further) =
    all_put (with_one m put.0 put.1) puts p cell (one_filled m put.0 put.1 filled).0
    (ap (λ s. is_inside s p) (one_filled m put.0 put.1 filled).1 ∙ inside)
    (λ other among. same other (inr among)) further
