-- The changes of all sectors, each put down in its own, are all of them put down on the map.
use Rattle.std.proofs.Common.{◌≡◌, ℕ, zero, suc, ◌+◌, ◌<◌, ◌≤◌, true, if◌then◌else◌, List, [], ◌∷◌, ◌++◌, length, take, drop, get_or, set, slice_get, Option, Some, None, unwrap_or, refl, sym, ap, ap₂, ◌∙◌, subst, arith}
use Rattle.std.proofs.lemmas.List.{append_assoc, append-nil, drop_all, length-take-le, take_all, take_more}
use Rattle.std.proofs.lemmas.Option.{get_or_from_slice_get}
use Rattle.vx_base.proofs.Lists.{drop_at, item_there}
use Rattle.vx_geom.specs.declared.pos.Pos.{Pos}
use Rattle.vx_geom.specs.Places.{position_in_sector, positions_from, positions}
use Rattle.vx_geom.specs.Sizes.{Sizes, AreSizes, sector_cells, sector_count, sector_of}
use Rattle.vx_geom.proofs.Places.{indices_are_places}
use Rattle.vx_block.specs.declared.cell.Cell.{Cell}
use Rattle.vx_cells.specs.Maps.{MapData, cell_on}
use Rattle.vx_cells.specs.SectorCells.{SectorCells, holds, with_block, with_cell}
use Rattle.vx_cells.specs.Wholes.{with_cell_on, with_cells_on, IsMap}
use Rattle.vx_cells.proofs.MapLemmas.{placed_at}
use Rattle.vx_cells.proofs.Placed.{holds_found}
use Rattle.vx_cells.proofs.Setting.{cell_is_set, puts_whole}
use Rattle.vx_power.specs.Laws.{dust_level}
use Rattle.vx_part.specs.Changes.{change_at, before, changes}
use Rattle.vx_step.specs.Shares.{AreEach, AreFromTo, with_own}
use Rattle.vx_tick.specs.Pieces.{changed_in}
use Rattle.vx_tick.proofs.Puts.{cells_joined}
use Rattle.vx_tick.specs.Ticks.{changed_up_to, advanced}

-- all these lie in the sector of number k
abbrev AreOf : Sizes → ℕ → List (Pos × Cell) → Type 0
AreOf sizes k [] = Unit {0}
AreOf sizes k (put ∷ puts) = (sector_of sizes put.0 ≡ Some k) × AreOf sizes k puts

-- another in the place of one
set_there : {X : Type 0} (xs : List X) (c d : X) (ys : List X)
    → set (xs ++ (c ∷ ys)) (length xs) d ≡ xs ++ (d ∷ ys)
set_there [] c d ys = refl
set_there (x ∷ xs) c d ys = ap (λ rest. x ∷ rest) (set_there xs c d ys)

get_there : {X : Type 0} (xs : List X) (c : X) (ys : List X)
    → slice_get (xs ++ (c ∷ ys)) (length xs) ≡ Some c
get_there [] c ys = refl
get_there (x ∷ xs) c ys = get_there xs c ys

-- cells put down in one sector
own_put : (sizes : Sizes) (xs : List SectorCells) (c : SectorCells) (ys : List SectorCells) (puts : List (Pos × Cell))
    → c.bounds ≡ sizes → c.sector ≡ length xs → AreOf sizes (length xs) puts
    → with_cells_on (record { sizes = sizes; sectors = xs ++ (c ∷ ys) }) puts
    ≡ record { sizes = sizes; sectors = xs ++ (with_own c puts ∷ ys) }
unfolding with_block
own_put sizes xs c ys [] bounds sector are = refl
own_put sizes xs c ys (put ∷ puts) bounds sector are =
    let m : MapData = record { sizes = sizes; sectors = xs ++ (c ∷ ys) } in
    let held : holds c put.0 ≡ true = holds_found c put.0 (length xs) (ap (λ s. sector_of s put.0) bounds ∙ are.0) sector in
    let d = with_cell c put.0 put.1 in
    let one : with_cell_on m put.0 put.1 ≡ Some (record m { sectors = set m.sectors (length xs) d }) =
    cell_is_set m put.0 put.1 (length xs) c d are.0 (get_there xs c ys) held refl in
    ap (λ o. with_cells_on (unwrap_or o m) puts) one
    ∙ ap (λ cs. with_cells_on (record { sizes = sizes; sectors = cs }) puts) (set_there xs c d ys)
    ∙ own_put sizes xs d ys puts bounds sector are.1
    ∙ ap (λ e. record { sizes = sizes; sectors = xs ++ (with_own e puts ∷ ys) })
    (sym (ap (λ b. if b then d else c) held))

module _ (m : MapData) (valid : AreSizes m.sizes) (k : ℕ) (low : k < sector_count m.sizes) where
  abbrev w : Pos → Cell
  w = cell_on m

  abbrev level : Pos → ℕ
  level = dust_level (cell_on m)

  one_own : (p : Pos) (o : Option Cell) (others : List (Pos × Cell)) → sector_of m.sizes p ≡ Some k
      → AreOf m.sizes k others → AreOf m.sizes k (before p o others)
  one_own p None others held are = are
  one_own p (Some cell) others held are = (held, are)

  all_own : (from n : ℕ) → from + n ≤ sector_cells m.sizes
      → AreOf m.sizes k (changes w level (positions_from m.sizes k from n))
  all_own from zero within = tt
  all_own from (suc n) within =
      let p = position_in_sector m.sizes k from in
      one_own p (change_at w level p) (changes w level (positions_from m.sizes k (suc from) n))
      ((indices_are_places m.sizes k valid low).held from (omega (arith, within)))
      (all_own (suc from) n (omega (arith, within)))

  -- what becomes another cell in a sector lies in it
  changed_own : AreOf m.sizes k (changed_in m k)
  unfolding positions
  changed_own = all_own 0 (sector_cells m.sizes) (omega arith)

-- what holds of one of those with its number
each_at : {X : Type 0} (P : ℕ → X → Type 0) (k : ℕ) (xs : List X) (i : ℕ) (d : X) → AreEach P k xs
    → i < length xs → P (k + i) (get_or xs i d)
each_at P k [] i d each low = absurd (omega (arith, low))
each_at P k (x ∷ xs) zero d each low = subst (λ n. P n x) (omega arith) each.0
each_at P k (x ∷ xs) (suc i) d each low =
    subst (λ n. P n (get_or xs i d)) (omega arith) (each_at P (suc k) xs i d each.1 (omega (arith, low)))

pub one_at : {X : Type 0} (P : ℕ → X → Type 0) (n : ℕ) (xs : List X) (i : ℕ) (d : X) → AreFromTo P 0 n xs
    → i < n → P i (get_or xs i d)
one_at P n xs i d are low =
    subst (λ k. P k (get_or xs i d)) (omega arith)
    (each_at P 0 xs i d are.each (omega (arith, are.all, low)))

module _ (m : MapData) (nexts : List SectorCells) (whole : IsMap m)
    (all : length nexts ≡ sector_count m.sizes)
    (own : (i : ℕ) (c : SectorCells) → i < sector_count m.sizes → slice_get m.sectors i ≡ Some c
    → get_or nexts i c ≡ with_own c (changed_in m i)) where
  -- the map with the next parts of the first sectors
  abbrev reached : ℕ → MapData
  reached i = record { sizes = m.sizes; sectors = take i nexts ++ drop i m.sectors }

  one_sector : (i : ℕ) → i < sector_count m.sizes
      → with_cells_on (reached i) (changed_in m i) ≡ reached (i + 1)
  one_sector i low =
      let found = item_there m.sectors i (omega (arith, low, whole.all)) in
      let c = found.0 in
      let place = placed_at m.sizes 0 i m.sectors c whole.each found.1 in
      let so_far : length (take i nexts) ≡ i = length-take-le i nexts (omega (arith, low, all)) in
      let rest = drop (i + 1) m.sectors in
      ap (λ cs. with_cells_on (record { sizes = m.sizes; sectors = take i nexts ++ cs }) (changed_in m i))
      (drop_at m.sectors i c found.1)
      ∙ own_put m.sizes (take i nexts) c rest (changed_in m i) place.0 (omega (arith, place.1, so_far))
      (subst (λ n. AreOf m.sizes n (changed_in m i)) (sym so_far) (changed_own m whole.valid i low))
      ∙ ap (λ cs. record { sizes = m.sizes; sectors = cs })
      (ap (λ d. take i nexts ++ (d ∷ rest)) (sym (own i c low found.1))
      ∙ sym (append_assoc (take i nexts) (get_or nexts i c ∷ []) rest)
      ∙ ap (λ cs. cs ++ rest) (sym (take_more nexts i c (omega (arith, low, all)))))

  sectors_reached : (i : ℕ) → i ≤ sector_count m.sizes → with_cells_on m (changed_up_to m i) ≡ reached i
  sectors_reached zero low = refl
  sectors_reached (suc i) low =
      let next : i + 1 ≡ suc i = omega arith in
      cells_joined m (changed_up_to m i) (changed_in m i)
      ∙ ap (λ n. with_cells_on n (changed_in m i)) (sectors_reached i (omega (arith, low)))
      ∙ one_sector i (omega (arith, low))
      ∙ ap reached next

  -- the sectors with their next parts are the map on which each component has become its next
  pub gathered : record { sizes = m.sizes; sectors = nexts } ≡ advanced m
  gathered =
      let n = sector_count m.sizes in
      ap (λ cs. record { sizes = m.sizes; sectors = cs })
      (sym (ap₂ (λ a b. a ++ b) (take_all n nexts (omega (arith, all))) (drop_all n m.sectors (omega (arith, whole.all)))
      ∙ append-nil nexts))
      ∙ sym (sectors_reached n (omega arith))

-- so are those that each come of a sector and of what becomes another cell in it
pub gathered_by : {V : Type 0} (items : V → List (Pos × Cell)) (m : MapData) (cells nexts : List SectorCells)
    (changes : List V) (n : ℕ) → cells ≡ m.sectors → n ≡ sector_count m.sizes
    → IsMap m → AreFromTo (λ i v. items v ≡ changed_in m i) 0 (sector_count m.sizes) changes
    → AreFromTo (λ i next. (c : SectorCells) (v : V) → next ≡ with_own (get_or cells i c) (items (get_or changes i v))) 0 n nexts
    → record { sizes = m.sizes; sectors = nexts } ≡ advanced m
gathered_by items m cells nexts changes n same all whole own nexts_are =
    gathered m nexts whole (omega (arith, nexts_are.all, all))
    (λ i c low found.
    let v = (item_there changes i (omega (arith, low, own.all))).0 in
    one_at _ n nexts i c nexts_are (omega (arith, low, all)) c v
    ∙ ap₂ with_own (ap (λ cs. get_or cs i c) same ∙ get_or_from_slice_get m.sectors i c c found)
    (one_at (λ i v. items v ≡ changed_in m i) (sector_count m.sizes) changes i v own low))

-- and they stand in their places
pub advanced_whole : (m : MapData) → IsMap m → IsMap (advanced m)
advanced_whole m whole = (puts_whole m (changed_up_to m (sector_count m.sizes)) whole).0
