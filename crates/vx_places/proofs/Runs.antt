-- Columns of a row of a layer that lie in one sector: what passes a test there, and the indices of
-- these positions.
use Rattle.std.proofs.Common.{◌≡◌, ℕ, ◌+◌, ◌-◌, ◌%◌, ◌/◌, ◌<◌, ◌≤◌, Bool, true, false, ◌&&◌, nat_eq, nat_lt, nat_le, Some, inl, inr, pos, refl, ap, sym, ◌∙◌, arith}
use Rattle.std.proofs.lemmas.Bool.{cases_Bool, and_parts, and_from, leb-true, ltb-true, eqb-true, le-leb, lt-ltb, eq-eqb, false_from_ne_true, true≢false}
use Rattle.vx_geom.specs.declared.pos.Pos.{Pos}
use Rattle.vx_geom.specs.Sizes.{Sizes, AreSizes, span, is_inside, sector_number, sector_of, index_in_sector}
use Rattle.vx_geom.proofs.Positions.{same_pos}
use Rattle.vx_geom.proofs.SectorLemmas.{inside_at, held_at, same_index}
use Rattle.vx_marks.specs.Marks.{is_set}
use Rattle.vx_marks.proofs.WordBits.{unset}
use Rattle.vx_cells.specs.Listed.{place, AreInRow}
use Rattle.vx_cells.proofs.Indices.{numbered}
use Rattle.vx_cells.proofs.Rows.{index_later, in_word, column_held}
use Rattle.vx_places.specs.Around.{layer_of, row_of, column_of, is_in_run}
use Rattle.vx_places.specs.Places.{in_run_from}
use Rattle.vx_places.proofs.Marked.{number_of}

module _ (such : Pos → Bool) (v : Sizes) (sizes : AreSizes v) (x y z length : ℕ)
    (inside : is_inside v (place x y z) ≡ true) (within : x % span v + length ≤ span v) where
  abbrev test : Pos → Bool
  test = is_in_run such x y z length

  abbrev sector : ℕ
  sector = sector_number v (place x y z)

  -- a position that passes is one of the columns, and passes the test of them all
  record IsColumn (q : Pos) (k : ℕ) : Type 0 where
    low : k < length
    is : q ≡ place (x + k) y z
    stands : such q ≡ true

  column : (q : Pos) → is_inside v q ≡ true → test q ≡ true → IsColumn q (column_of q - x)
  column q here passes =
      let at = inside_at v q here in
      let all = and_parts ((such q && nat_eq (layer_of q) y) && nat_eq (row_of q) z) _ passes in
      let ends = and_parts (nat_le x (column_of q)) _ all.1 in
      let both = and_parts (such q && nat_eq (layer_of q) y) _ all.0 in
      let parts = and_parts (such q) _ both.0 in
      let least : x ≤ column_of q = leb-true x (column_of q) ends.0 in
      let most : column_of q < x + length = ltb-true (column_of q) (x + length) ends.1 in
      let back : column_of q ≡ x + (column_of q - x) = omega (arith, least) in
      record {
        low = omega (arith, least, most);
        is = same_pos q (place (x + (column_of q - x)) y z)
            (at.y_is ∙ ap pos (eqb-true (layer_of q) y parts.1))
            (at.z_is ∙ ap pos (eqb-true (row_of q) z both.1))
            (at.x_is ∙ ap pos back);
        stands = parts.0;
      }

  passes_there : (k : ℕ) → k < length → such (place (x + k) y z) ≡ true → test (place (x + k) y z) ≡ true
  passes_there k low stands =
      and_from _ _
      (and_from _ _ (and_from _ _ stands (eq-eqb y y refl)) (eq-eqb z z refl))
      (and_from _ _ (le-leb x (x + k) (omega arith)) (lt-ltb (x + k) (x + length) (omega arith)))

  -- those that pass are those whose indices the bits of the row tell
  module _ (bits : ℕ) (are : AreInRow such x y z length bits) where
    abbrev index : ℕ
    index = index_in_sector v (place x y z)

    word : index % 64 + length ≤ 64
    word = in_word v sizes x y z length index refl within

    told : (q : Pos) → is_inside v q ≡ true → test q ≡ true → in_run_from v (place x y z) bits q ≡ true
    told q here passes =
        let of = column q here passes in
        let k = column_of q - x in
        let there : index_in_sector v q ≡ index + k =
        ap (index_in_sector v) of.is ∙ index_later v sizes x y z length index refl within k of.low in
        let held : sector_of v q ≡ Some sector =
        ap (sector_of v) of.is ∙ column_held v sizes x y z length inside within k of.low in
        let back : index_in_sector v q - index ≡ k = omega (arith, there) in
        and_from _ _ (eq-eqb (sector_number v q) sector (number_of v q sector held))
        (and_from _ _ (eq-eqb (index_in_sector v q / 64) (index / 64) (omega (arith, there, word, of.low)))
        (and_from _ _ (le-leb index (index_in_sector v q) (omega (arith, there)))
        (ap (is_set bits) back ∙ are k
        ∙ and_from _ _ (lt-ltb k length of.low) (ap such (sym of.is) ∙ of.stands))))

    passes_told : (q : Pos) → is_inside v q ≡ true → in_run_from v (place x y z) bits q ≡ true → test q ≡ true
    passes_told q here all =
        let both = and_parts (nat_eq (sector_number v q) sector) _ all in
        let run = and_parts (nat_eq (index_in_sector v q / 64) (index / 64)) _ both.1 in
        let parts = and_parts (nat_le index (index_in_sector v q)) _ run.1 in
        let k = index_in_sector v q - index in
        let set = and_parts (nat_lt k length) _ (sym (are k) ∙ parts.1) in
        let low : k < length = ltb-true k length set.0 in
        let least : index ≤ index_in_sector v q = leb-true index (index_in_sector v q) parts.0 in
        let back : index + k ≡ index_in_sector v q = omega (arith, least) in
        let there : index_in_sector v (place (x + k) y z) ≡ index_in_sector v q =
        index_later v sizes x y z length index refl within k low ∙ back in
        let held = column_held v sizes x y z length inside within k low in
        let of_q : sector_of v q ≡ Some sector =
        numbered v q here ∙ ap Some (eqb-true (sector_number v q) sector both.0) in
        let same = same_index v (place (x + k) y z) q sector sizes (held_at v (place (x + k) y z) sector sizes held)
        (held_at v q sector sizes of_q) there in
        ap test (sym same) ∙ passes_there k low set.1

    pub row_run : (q : Pos) → is_inside v q ≡ true → in_run_from v (place x y z) bits q ≡ test q
    row_run q here = elim (cases_Bool (test q)) [
      | inl passes ↦ told q here passes ∙ sym passes
      | inr fails ↦ false_from_ne_true _ (λ all. true≢false (sym (passes_told q here all) ∙ fails)) ∙ sym fails
    ]

  -- where no bit is set none passes
  pub none_run : AreInRow such x y z length 0 → (q : Pos) → is_inside v q ≡ true → test q ≡ false
  none_run are q here = false_from_ne_true (test q) (λ passes.
      let of = column q here passes in
      let k = column_of q - x in
      let set = are k ∙ and_from _ _ (lt-ltb k length of.low) (ap such (sym of.is) ∙ of.stands) in
      true≢false (sym set ∙ unset k))
