-- Each component of a map becomes its next part, and all else stays.
use Rattle.std.proofs.Common.{◌≡◌, ◌≢◌, ℕ, zero, suc, ◌<◌, Bool, true, false, inl, inr, List, [], ◌∷◌, Option, Some, None, if◌then◌else◌, refl, sym, ap, ◌∙◌, subst, arith}
use Rattle.std.proofs.lemmas.Bool.{cases_eq, false≢true}
use Rattle.vx_geom.specs.declared.pos.Pos.{Pos}
use Rattle.vx_geom.specs.Places.{positions}
use Rattle.vx_geom.specs.Sizes.{is_inside, sector_number, sector_count}
use Rattle.vx_block.specs.declared.cell.Cell.{Cell}
use Rattle.vx_block.specs.declared.cell.Cell.TheVariants.{Air}
use Rattle.vx_cells.specs.CellsLaws.{cell_decided}
use Rattle.vx_cells.specs.MapLaws.{block_on, IsFilled}
use Rattle.vx_cells.specs.Maps.{MapData, cell_on}
use Rattle.vx_cells.specs.SameCells.{same_cell}
use Rattle.vx_cells.proofs.Indices.{numbered, number_below}
use Rattle.vx_cells.proofs.MapLemmas.{outside_is_air}
use Rattle.vx_cells.proofs.Putting.{cell_of_block}
use Rattle.vx_power.specs.Laws.{dust_level}
use Rattle.vx_power.specs.Walks.{IsAmong}
use Rattle.vx_power.proofs.Feeding.{is_listed}
use Rattle.vx_power.proofs.Linking.{among_either, among_left, among_right}
use Rattle.vx_part.specs.Changes.{change_at, before, changes}
use Rattle.vx_part.specs.Parts.{next_of, next_part}
use Rattle.vx_tick.specs.Ticks.{changed_up_to, advanced}
use Rattle.vx_tick.specs.Laws.{PartsBecomeNext, UnchangedStay}
use Rattle.vx_tick.proofs.Puts.{none_put, all_put}

module _ (w : Pos → Cell) (level : Pos → ℕ) where
  -- each change among those of some positions is that of its own position
  is_change : (ps : List Pos) (p : Pos) (cell : Cell) → IsAmong (changes w level ps) (p, cell)
      → change_at w level p ≡ Some cell
  is_change [] p cell among = absurd among
  is_change (q ∷ ps) p cell among = by (change_at w level q) refl (is_change ps p cell) among
    where
      by : (o : Option Cell) → change_at w level q ≡ o
          → (IsAmong (changes w level ps) (p, cell) → change_at w level p ≡ Some cell)
          → IsAmong (before q o (changes w level ps)) (p, cell) → change_at w level p ≡ Some cell
      by None is rest among = rest among
      by (Some c) is rest (inl same) =
          ap (λ x. change_at w level x.0) (sym same) ∙ is ∙ ap (λ x. Some x.1) same
      by (Some c) is rest (inr further) = rest further

  later : (q : Pos) (o : Option Cell) (others : List (Pos × Cell)) (p : Pos) (cell : Cell)
      → IsAmong others (p, cell) → IsAmong (before q o others) (p, cell)
  later q None others p cell among = among
  later q (Some c) others p cell among = inr among

  -- and that of each position is among them
  has_change : (ps : List Pos) (p : Pos) (cell : Cell) → IsAmong ps p → change_at w level p ≡ Some cell
      → IsAmong (changes w level ps) (p, cell)
  has_change [] p cell among is = absurd among
  has_change (q ∷ ps) p cell (inl same) is =
      subst (λ o. IsAmong (before q o (changes w level ps)) (p, cell))
      (sym (ap (change_at w level) same ∙ is)) (inl (λ i. (same i, cell)))
  has_change (q ∷ ps) p cell (inr further) is =
      later q (change_at w level q) (changes w level ps) p cell (has_change ps p cell further is)

  -- where nothing changes the next part is the cell that stands there
  pub no_change : (p : Pos) → change_at w level p ≡ None → next_part w level p ≡ w p
  unfolding change_at
  no_change p none = by (same_cell (next_part w level p) (w p)) refl none
    where
      by : (b : Bool) → same_cell (next_part w level p) (w p) ≡ b
          → (if b then None else Some (next_part w level p)) ≡ None → next_part w level p ≡ w p
      by true is none = (cell_decided (next_part w level p) (w p)).0 is
      by false is none = cc

  pub a_change : (p : Pos) (cell : Cell) → change_at w level p ≡ Some cell
      → (cell ≡ next_part w level p) × (next_part w level p ≢ w p)
  unfolding change_at
  a_change p cell some = by (same_cell (next_part w level p) (w p)) refl some
    where
      by : (b : Bool) → same_cell (next_part w level p) (w p) ≡ b
          → (if b then None else Some (next_part w level p)) ≡ Some cell
          → (cell ≡ next_part w level p) × (next_part w level p ≢ w p)
      by true is some = cc
      by false is some =
          let same : next_part w level p ≡ cell = cc in
          (sym same, λ stays. false≢true (sym is ∙ (cell_decided (next_part w level p) (w p)).1 stays))

  air_stays : (p : Pos) → w p ≡ Air → next_part w level p ≡ w p
  unfolding next_of
  air_stays p air = ap (next_of w level p) air ∙ sym air

module _ (m : MapData) (filled : IsFilled m) where
  pub is_one : (n : ℕ) (p : Pos) (cell : Cell) → IsAmong (changed_up_to m n) (p, cell)
      → change_at (cell_on m) (dust_level (cell_on m)) p ≡ Some cell
  is_one zero p cell among = absurd among
  is_one (suc n) p cell among =
      elim (among_either (changed_up_to m n) _ (p, cell) among) [
        | inl before ↦ is_one n p cell before
        | inr here ↦ is_change (cell_on m) (dust_level (cell_on m)) (positions m.sizes n) p cell here
      ]

  has_one : (n k : ℕ) (p : Pos) (cell : Cell) → k < n → IsAmong (positions m.sizes k) p
      → change_at (cell_on m) (dust_level (cell_on m)) p ≡ Some cell
      → IsAmong (changed_up_to m n) (p, cell)
  has_one zero k p cell low among is = absurd (omega arith)
  has_one (suc n) k p cell low among is =
      elim (cases_eq k n) [
        | inl same ↦
            among_right (changed_up_to m n) _ (p, cell)
            (has_change (cell_on m) (dust_level (cell_on m)) (positions m.sizes n) p cell
            (subst (λ j. IsAmong (positions m.sizes j) p) same among) is)
        | inr other ↦
            among_left (changed_up_to m n) _ (p, cell) (has_one n k p cell (omega (arith, low)) among is)
      ]

  -- what changes lies inside
  changes_inside : (p : Pos) (cell : Cell)
      → change_at (cell_on m) (dust_level (cell_on m)) p ≡ Some cell → is_inside m.sizes p ≡ true
  changes_inside p cell is = by (is_inside m.sizes p) refl
    where
      by : (b : Bool) → is_inside m.sizes p ≡ b → is_inside m.sizes p ≡ true
      by true inside = inside
      by false outside =
          absurd ((a_change (cell_on m) (dust_level (cell_on m)) p cell is).1
          (air_stays (cell_on m) (dust_level (cell_on m)) p
          (outside_is_air m p (λ inside. false≢true (sym outside ∙ inside)))))

  -- each change is among those of the map
  pub is_among : (p : Pos) (cell : Cell)
      → change_at (cell_on m) (dust_level (cell_on m)) p ≡ Some cell
      → IsAmong (changed_up_to m (sector_count m.sizes)) (p, cell)
  is_among p cell some =
      let inside = changes_inside p cell some in
      let low = number_below m.sizes p filled.map.valid inside in
      has_one (sector_count m.sizes) (sector_number m.sizes p) p cell low
      (is_listed m.sizes p (sector_number m.sizes p) filled.map.valid inside (numbered m.sizes p inside) low) some

  nothing_put : (p : Pos) → change_at (cell_on m) (dust_level (cell_on m)) p ≡ None
      → block_on (advanced m) p ≡ block_on m p
  nothing_put p none =
      none_put m (changed_up_to m (sector_count m.sizes)) p filled
      (λ cell among. let some = is_one (sector_count m.sizes) p cell among in cc)

  becomes : (p : Pos) (o : Option Cell) → change_at (cell_on m) (dust_level (cell_on m)) p ≡ o
      → cell_on (advanced m) p ≡ next_part (cell_on m) (dust_level (cell_on m)) p
  becomes p None none =
      sym (cell_of_block (advanced m) p)
      ∙ ap (λ b. b.cell) (nothing_put p none)
      ∙ cell_of_block m p
      ∙ sym (no_change (cell_on m) (dust_level (cell_on m)) p none)
  becomes p (Some cell) some =
      let inside = changes_inside p cell some in
      sym (cell_of_block (advanced m) p)
      ∙ ap (λ b. b.cell) (all_put m (changed_up_to m (sector_count m.sizes)) p cell filled inside
      (λ other among. let is = is_one (sector_count m.sizes) p other among in cc)
      (is_among p cell some))
      ∙ (a_change (cell_on m) (dust_level (cell_on m)) p cell some).0

pub parts_become_next : PartsBecomeNext
parts_become_next m p filled =
    becomes m filled p (change_at (cell_on m) (dust_level (cell_on m)) p) refl

pub unchanged_stay : UnchangedStay
unchanged_stay m p filled same = by (change_at (cell_on m) (dust_level (cell_on m)) p) refl
  where
    by : (o : Option Cell) → change_at (cell_on m) (dust_level (cell_on m)) p ≡ o
        → block_on (advanced m) p ≡ block_on m p
    by None none = nothing_put m filled p none
    by (Some cell) some =
        absurd ((a_change (cell_on m) (dust_level (cell_on m)) p cell some).1 same)
