-- Which layers, rows and columns lie within so many steps of a position.
use Rattle.std.proofs.Common.{◌≡◌, ℕ, ◌+◌, ◌-◌, ◌*◌, ◌<◌, ◌≤◌, max, Bool, ◌&&◌, true, false, nat_le, inl, inr, pos, ◌-ℤ◌, unsigned_abs, true≢false, refl, ap, sym, ◌∙◌, arith}
use Rattle.std.specs.Prelude.{ℤ, int_lt}
use Rattle.std.proofs.lemmas.Bool.{cases_Bool, and_parts, and_from, false_from_ne_true, leb-true, ltb-true, le-leb, lt-ltb, eqb-true}
use Rattle.std.proofs.lemmas.Int.{ints}
use Rattle.vx_geom.specs.declared.pos.Pos.{Pos}
use Rattle.vx_geom.specs.Sizes.{Sizes, span, is_inside}
use Rattle.vx_geom.proofs.Positions.{same_pos}
use Rattle.vx_geom.proofs.SectorLemmas.{inside_at, below_from}
use Rattle.vx_cells.specs.Listed.{place}
use Rattle.vx_places.specs.Areas.{IsColumnOf, in_area}
use Rattle.vx_places.specs.Around.{is_around, is_such_around, is_in_run, layer_of, row_of, column_of, at_number, between_numbers, least_within, end_within}
use Rattle.vx_places.specs.declared.area.Area.{Area}
use Rattle.vx_places.specs.Places.{steps_between}

-- the numbers within so many steps of a coordinate end below `count`
pub end_most : (c : ℤ) (steps count : ℕ) → end_within c steps count ≤ count
unfolding end_within
end_most c steps count = elim (cases_Bool (int_lt c (pos 0))) [
  | inl under ↦ rw under (omega arith)
  | inr over ↦ rw over (omega arith)
]

-- and lie so near
module _ (c : ℤ) (steps count n : ℕ) where
  pub least_near : n < count → unsigned_abs (c -ℤ pos n) ≤ steps → least_within c steps count ≤ n
  unfolding least_within
  least_near low near = elim (cases_Bool (int_lt c (pos 0))) [
    | inl under ↦ rw under (omega arith)
    | inr over ↦ rw over (omega (arith, ints))
  ]

  pub end_near : n < count → unsigned_abs (c -ℤ pos n) ≤ steps → n < end_within c steps count
  unfolding end_within
  end_near low near = elim (cases_Bool (int_lt c (pos 0))) [
    | inl under ↦ rw under (omega (arith, ints))
    | inr over ↦ rw over (omega (arith, ints))
  ]

  pub below_end : n < end_within c steps count → n < count
  below_end low = omega (arith, low, end_most c steps count)

  pub between_near : least_within c steps count ≤ n → n < end_within c steps count
      → unsigned_abs (c -ℤ pos n) ≤ steps
  unfolding least_within end_within
  between_near least low = elim (cases_Bool (int_lt c (pos 0))) [
    | inl under ↦ omega (arith, ints, under, rw under at low)
    | inr over ↦ omega (arith, ints, over, rw over at least, rw over at low)
  ]

-- where its coordinates are below those of the world's end a position is of the world
pub inside_below : (v : Sizes) (x y z : ℕ) → x < v.sx * span v → y < v.h → z < v.sz * span v
    → is_inside v (place x y z) ≡ true
unfolding is_inside
inside_below v x y z low_x low_y low_z =
    let in_x = below_from (pos x) (v.sx * span v) (omega (arith, ints)) (omega (arith, ints, low_x)) in
    let in_y = below_from (pos y) v.h (omega (arith, ints)) (omega (arith, ints, low_y)) in
    let in_z = below_from (pos z) (v.sz * span v) (omega (arith, ints)) (omega (arith, ints, low_z)) in
    (λ i. in_x i && (in_y i && in_z i))

-- such positions lie between the least of these numbers and their end
between : (c : ℤ) (steps count n : ℕ) → n < count → unsigned_abs (c -ℤ pos n) ≤ steps
    → (least_within c steps count ≤ n) × (n < end_within c steps count)
between c steps count n low near = (least_near c steps count n low near, end_near c steps count n low near)

same_bool : (a b : Bool) → (a ≡ true → b ≡ true) → (b ≡ true → a ≡ true) → a ≡ b
same_bool true b there back = sym (there refl)
same_bool false true there back = back refl
same_bool false false there back = refl

-- what passes a test within so many steps of a position
module _ (test : Pos → Bool) (v : Sizes) (p : Pos) (steps : ℕ) (q : Pos) (inside : is_inside v q ≡ true) where
  steps_to : is_around p steps q ≡ true
      → unsigned_abs (p.x -ℤ pos (column_of q)) + (unsigned_abs (p.y -ℤ pos (layer_of q)) + unsigned_abs (p.z -ℤ pos (row_of q)))
      ≤ steps
  steps_to around =
      let at = inside_at v q inside in
      let all = leb-true (steps_between p q) steps around in
      let in_x = ap (λ n. unsigned_abs (p.x -ℤ n)) at.x_is in
      let in_y = ap (λ n. unsigned_abs (p.y -ℤ n)) at.y_is in
      let in_z = ap (λ n. unsigned_abs (p.z -ℤ n)) at.z_is in
      omega (arith, all, in_x, in_y, in_z)

  steps_back : unsigned_abs (p.x -ℤ pos (column_of q)) + (unsigned_abs (p.y -ℤ pos (layer_of q)) + unsigned_abs (p.z -ℤ pos (row_of q)))
      ≤ steps → is_around p steps q ≡ true
  steps_back near =
      let at = inside_at v q inside in
      let in_x = ap (λ n. unsigned_abs (p.x -ℤ n)) at.x_is in
      let in_y = ap (λ n. unsigned_abs (p.y -ℤ n)) at.y_is in
      let in_z = ap (λ n. unsigned_abs (p.z -ℤ n)) at.z_is in
      le-leb (steps_between p q) steps (omega (arith, near, in_x, in_y, in_z))

  -- lies in rows, in columns and in layers within these steps
  pub near_row : (count : ℕ) → count ≡ v.sz * span v → is_such_around test p steps q ≡ true
      → (least_within p.z steps count ≤ row_of q) × (row_of q < end_within p.z steps count)
  near_row count many around =
      let near = steps_to (and_parts (is_around p steps q) _ around).0 in
      between p.z steps count (row_of q) (omega (arith, (inside_at v q inside).z_below, many)) (omega (arith, near))

  pub near_column : (count : ℕ) → count ≡ v.sx * span v → is_such_around test p steps q ≡ true
      → (least_within p.x steps count ≤ column_of q) × (column_of q < end_within p.x steps count)
  near_column count many around =
      let near = steps_to (and_parts (is_around p steps q) _ around).0 in
      between p.x steps count (column_of q) (omega (arith, (inside_at v q inside).x_below, many)) (omega (arith, near))

  pub near_layer : (count : ℕ) → layer_of q < count → is_such_around test p steps q ≡ true
      → (least_within p.y steps count ≤ layer_of q) × (layer_of q < end_within p.y steps count)
  near_layer count low around =
      let near = steps_to (and_parts (is_around p steps q) _ around).0 in
      between p.y steps count (layer_of q) low (omega (arith, near))

  -- and in an area
  module _ (area : Area) where
    pub record IsIn : Type 0 where
      pub around : is_such_around test p steps q ≡ true
      pub within : IsColumnOf area (column_of q) (row_of q)

    pub parts_of : in_area (is_such_around test p steps) area q ≡ true → IsIn
    parts_of all =
        let columns = and_parts (between_numbers row_of (is_such_around test p steps) area.north area.south q) _ all in
        let rows = and_parts (is_such_around test p steps q) _ columns.0 in
        let column = and_parts (nat_le area.west (column_of q)) _ columns.1 in
        let row = and_parts (nat_le area.north (row_of q)) _ rows.1 in
        record {
          around = rows.0;
          within = record {
            west = leb-true area.west (column_of q) column.0;
            east = ltb-true (column_of q) area.east column.1;
            north = leb-true area.north (row_of q) row.0;
            south = ltb-true (row_of q) area.south row.1;
          };
        }

    parts_from : is_such_around test p steps q ≡ true → IsColumnOf area (column_of q) (row_of q)
        → in_area (is_such_around test p steps) area q ≡ true
    parts_from around within =
        and_from _ _
        (and_from _ _ around
        (and_from _ _ (le-leb area.north (row_of q) within.north) (lt-ltb (row_of q) area.south within.south)))
        (and_from _ _ (le-leb area.west (column_of q) within.west) (lt-ltb (column_of q) area.east within.east))

    module _ (y : ℕ) where
      -- nothing is in a layer of it where nothing there passes the test
      pub none_in_layer : (IsColumnOf area (column_of q) (row_of q) → layer_of q ≡ y → test q ≡ false)
          → at_number layer_of (in_area (is_such_around test p steps) area) y q ≡ false
      none_in_layer none = false_from_ne_true _ (λ all.
          let both = and_parts _ _ all in
          let is = parts_of both.0 in
          let passes = (and_parts (is_around p steps q) _ is.around).1 in
          true≢false (sym passes ∙ none is.within (eqb-true (layer_of q) y both.1)))

      -- in a layer of it, and rows within the steps that are left
      pub row_in_area : (left : ℕ) → left + unsigned_abs (p.y -ℤ pos y) ≡ steps
          → at_number layer_of (in_area (is_such_around test p steps) area) y q ≡ true
          → (max (least_within p.z left area.south) area.north ≤ row_of q) × (row_of q < end_within p.z left area.south)
      row_in_area left rest all =
          let both = and_parts _ _ all in
          let is = parts_of both.0 in
          let near = steps_to (and_parts (is_around p steps q) _ is.around).0 in
          let layer = ap (λ n. unsigned_abs (p.y -ℤ pos n)) (eqb-true (layer_of q) y both.1) in
          let ends = between p.z left area.south (row_of q) is.within.south (omega (arith, near, rest, layer)) in
          (omega (arith, ends.0, is.within.north), ends.1)

      module _ (z left : ℕ) (rest : left + (unsigned_abs (p.y -ℤ pos y) + unsigned_abs (p.z -ℤ pos z)) ≡ steps) where
        abbrev in_row : Bool
        in_row = at_number row_of (at_number layer_of (in_area (is_such_around test p steps) area) y) z q

        abbrev west : ℕ
        west = max (least_within p.x left area.east) area.west

        abbrev east : ℕ
        east = end_within p.x left area.east

        -- in a row of it, and columns within the steps that are left then
        column_in_area : in_row ≡ true → (west ≤ column_of q) × (column_of q < east)
        column_in_area all =
            let rows = and_parts _ _ all in
            let both = and_parts _ _ rows.0 in
            let is = parts_of both.0 in
            let near = steps_to (and_parts (is_around p steps q) _ is.around).0 in
            let layer = ap (λ n. unsigned_abs (p.y -ℤ pos n)) (eqb-true (layer_of q) y both.1) in
            let row = ap (λ n. unsigned_abs (p.z -ℤ pos n)) (eqb-true (row_of q) z rows.1) in
            let ends = between p.x left area.east (column_of q) is.within.east (omega (arith, near, rest, layer, row)) in
            (omega (arith, ends.0, is.within.west), ends.1)

        -- where there are no such columns nothing is
        pub none_in_row : east ≤ west → in_row ≡ false
        none_in_row none = false_from_ne_true in_row (λ all.
            let ends = column_in_area all in
            omega (arith, ends.0, ends.1, none))

        -- in these columns all that passes the test in the row is such
        pub run_in_area : area.north ≤ z → z < area.south → west < east
            → is_in_run test west y z (east - west) q ≡ in_row
        run_in_area north south some = same_bool _ in_row back there
          where
            there : in_row ≡ true → is_in_run test west y z (east - west) q ≡ true
            there all =
                let rows = and_parts _ _ all in
                let both = and_parts _ _ rows.0 in
                let passes = (and_parts (is_around p steps q) _ (parts_of both.0).around).1 in
                let ends = column_in_area all in
                and_from _ _ (and_from _ _ (and_from _ _ passes both.1) rows.1)
                (and_from _ _ (le-leb west (column_of q) ends.0)
                (lt-ltb (column_of q) (west + (east - west)) (omega (arith, ends.1, some))))

            back : is_in_run test west y z (east - west) q ≡ true → in_row ≡ true
            back all =
                let columns = and_parts (at_number row_of (at_number layer_of test y) z q) _ all in
                let ends = and_parts (nat_le west (column_of q)) _ columns.1 in
                let rows = and_parts (at_number layer_of test y q) _ columns.0 in
                let both = and_parts (test q) _ rows.0 in
                let least = leb-true west (column_of q) ends.0 in
                let most = ltb-true (column_of q) (west + (east - west)) ends.1 in
                let layer = ap (λ n. unsigned_abs (p.y -ℤ pos n)) (eqb-true (layer_of q) y both.1) in
                let row = eqb-true (row_of q) z rows.1 in
                let off = ap (λ n. unsigned_abs (p.z -ℤ pos n)) row in
                let near = between_near p.x left area.east (column_of q) (omega (arith, least)) (omega (arith, most, some)) in
                let around = steps_back (omega (arith, near, rest, layer, off)) in
                let within : IsColumnOf area (column_of q) (row_of q) = record {
                  west = omega (arith, least);
                  east = omega (arith, most, some, end_most p.x left area.east);
                  north = omega (arith, row, north);
                  south = omega (arith, row, south);
                } in
                and_from _ _ (and_from _ _ (parts_from (and_from _ _ around both.0) within) both.1) rows.1

-- two tests that say the same in a layer of an area
module _ (v : Sizes) (p : Pos) (steps : ℕ) (q : Pos) (inside : is_inside v q ≡ true) (area : Area) (y : ℕ) where
  one_way : (test other : Pos → Bool)
      → (IsColumnOf area (column_of q) (row_of q) → layer_of q ≡ y → test q ≡ other q)
      → at_number layer_of (in_area (is_such_around test p steps) area) y q ≡ true
      → at_number layer_of (in_area (is_such_around other p steps) area) y q ≡ true
  one_way test other same all =
      let both = and_parts _ _ all in
      let is = parts_of test v p steps q inside area both.0 in
      let passes = and_parts (is_around p steps q) _ is.around in
      let here = sym (same is.within (eqb-true (layer_of q) y both.1)) ∙ passes.1 in
      and_from _ _ (parts_from other v p steps q inside area (and_from _ _ passes.0 here) is.within) both.1

  pub same_in_layer : (test other : Pos → Bool)
      → (IsColumnOf area (column_of q) (row_of q) → layer_of q ≡ y → test q ≡ other q)
      → at_number layer_of (in_area (is_such_around test p steps) area) y q
      ≡ at_number layer_of (in_area (is_such_around other p steps) area) y q
  same_in_layer test other same =
      same_bool _ _ (one_way test other same) (one_way other test (λ within layer. sym (same within layer)))

-- a position of a world by its column, its layer and its row
pub place_of : (v : Sizes) (q : Pos) → is_inside v q ≡ true → q ≡ place (column_of q) (layer_of q) (row_of q)
place_of v q inside =
    let at = inside_at v q inside in
    same_pos q (place (column_of q) (layer_of q) (row_of q)) at.y_is at.z_is at.x_is
