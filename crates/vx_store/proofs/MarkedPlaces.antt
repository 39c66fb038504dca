-- What is marked in a sector, in the order of its positions.
use Rattle.std.proofs.Common.{◌≡◌, ℕ, nat_lt, length, zero, suc, ◌+◌, ◌-◌, ◌*◌, ◌<◌, ◌≤◌, Bool, true, false, List, [], ◌∷◌, ◌++◌, cond, Option, Some, None, is_some, true≢false, refl, ap, sym, ◌∙◌, arith, append_assoc, append-nil}
use Rattle.std.proofs.lemmas.Bool.{lt-ltb}
use Rattle.std.specs.List.{filter}
use Rattle.vx_geom.specs.declared.pos.Pos.{Pos}
use Rattle.vx_geom.specs.Places.{position_in_sector, positions_from, positions}
use Rattle.vx_geom.specs.Sizes.{Sizes, AreSizes, sector_count, sector_cells, index_in_sector}
use Rattle.vx_geom.proofs.Places.{position_indexed}
use Rattle.vx_marks.specs.Marks.{is_marked, IsFirstMarked}
use Rattle.vx_store.specs.MarkedPlaces.{marked_places}

-- what of a list of positions passes a test
module _ (v : Sizes) (k : ℕ) (f : Pos → Bool) where
  abbrev rest : ℕ → ℕ → List Pos
  rest from n = filter f (positions_from v k from n)

  -- positions that don't pass are left out
  pub passed : (gap n m from to : ℕ) → m ≡ gap + n → to ≡ from + gap
      → ((i : ℕ) → from ≤ i → i < to → f (position_in_sector v k i) ≡ false)
      → rest from m ≡ rest to n
  passed zero n m from to more far none =
      let same : m ≡ n = omega arith in
      let here : from ≡ to = omega arith in
      λ t. rest (here t) (same t)
  passed (suc gap) n zero from to more far none = absurd (omega arith)
  passed (suc gap) n (suc m) from to more far none =
      let out = none from (omega arith) (omega arith) in
      ap (λ b. cond b (position_in_sector v k from ∷ rest (suc from) m) (rest (suc from) m)) out
      ∙ passed gap n m (suc from) to (omega arith) (omega arith) (λ i low high. none i (omega arith) high)

  -- one that passes is the next
  pub taken : (i to : ℕ) → i < to → f (position_in_sector v k i) ≡ true
      → rest i (to - i) ≡ position_in_sector v k i ∷ rest (i + 1) (to - (i + 1))
  taken i to near pass =
      let left : to - i ≡ suc (to - (i + 1)) = omega arith in
      let next : suc i ≡ i + 1 = omega arith in
      let n = to - (i + 1) in
      ap (rest i) left
      ∙ ap (λ b. cond b (position_in_sector v k i ∷ rest (suc i) n) (rest (suc i) n)) pass
      ∙ ap (λ j. position_in_sector v k i ∷ rest j n) next

-- the marked positions of a sector from an index on
abbrev pub left_from : Sizes → ℕ → List ℕ → ℕ → List Pos
left_from v k words from =
    filter (λ p. is_marked words (index_in_sector v p)) (positions_from v k from (sector_cells v - from))

one_or_more : (p : Pos) (ps : List Pos) → nat_lt 0 (length (p ∷ ps)) ≡ true
one_or_more p ps = lt-ltb 0 (length (p ∷ ps)) (omega arith)

-- the marks of a sector, in the order of its positions
module _ (v : Sizes) (k : ℕ) (words : List ℕ) (sizes : AreSizes v) (low : k < sector_count v)
    (room : 64 * length words ≡ sector_cells v) where
  abbrev marked : Pos → Bool
  marked p = is_marked words (index_in_sector v p)

  abbrev left : ℕ → List Pos
  left from = left_from v k words from

  marked_there : (i : ℕ) (b : Bool) → is_marked words i ≡ b → marked (position_in_sector v k i) ≡ b
  marked_there i b is = ap (is_marked words) (position_indexed v k sizes low i) ∙ is

  -- from index 0 on all are found
  pub found_first : left 0 ≡ marked_places v k words
  unfolding positions
  found_first =
      let all : sector_cells v - 0 ≡ sector_cells v = omega arith in
      ap (λ n. filter marked (positions_from v k 0 n)) all

  -- with the next that is marked all are found up to behind it
  pub found_on : (from : ℕ) (found more : List Pos) (i : ℕ) (p : Pos)
      → found ++ left from ≡ marked_places v k words → more ≡ found ++ p ∷ []
      → p ≡ position_in_sector v k i → IsFirstMarked words from (Some i)
      → more ++ left (i + 1) ≡ marked_places v k words
  found_on from found more i p so_far pushed place first =
      let to = sector_cells v in
      let near : i < to = omega (arith, first.1, room) in
      let gap : to - from ≡ i - from + (to - i) = omega (arith, first.0, near) in
      let at : i ≡ from + (i - from) = omega (arith, first.0) in
      let here = passed v k marked (i - from) (to - i) (to - from) from i gap at
      (λ j least less. marked_there j false (first.3 j least less)) in
      ap (λ ps. ps ++ left (i + 1)) pushed
      ∙ append_assoc found (p ∷ []) _
      ∙ ap (λ q. found ++ q ∷ left (i + 1)) place
      ∙ ap (λ ps. found ++ ps) (sym (here ∙ taken v k marked i to near (marked_there i true first.2)))
      ∙ so_far

  -- where none is marked any more all are found
  pub found_all : (from : ℕ) (found : List Pos) → from ≤ sector_cells v
      → found ++ left from ≡ marked_places v k words
      → IsFirstMarked words from None → found ≡ marked_places v k words
  found_all from found within so_far none =
      let to = sector_cells v in
      let gap = to - from in
      let here = passed v k marked gap 0 gap from to (omega arith) (omega arith)
      (λ j least less. marked_there j false (none j least (omega (arith, room)))) in
      sym (append-nil found) ∙ ap (λ ps. found ++ ps) (sym here) ∙ so_far

  -- where no index is marked there are none
  pub none_found : (found : Option ℕ) → IsFirstMarked words 0 found → is_some found ≡ false → [] ≡ marked_places v k words
  none_found None none empty = found_all 0 [] (omega arith) found_first none
  none_found (Some i) first empty = absurd (true≢false empty)

  -- an index is marked exactly where a position is found
  pub some_marked : (found : Option ℕ) → IsFirstMarked words 0 found
      → is_some found ≡ nat_lt 0 (length (marked_places v k words))
  some_marked None none = ap (λ ps. nat_lt 0 (length ps)) (found_all 0 [] (omega arith) found_first none)
  some_marked (Some i) first =
      sym (one_or_more (position_in_sector v k i) (left (i + 1)))
      ∙ ap (λ ps. nat_lt 0 (length ps)) (found_on 0 [] (position_in_sector v k i ∷ []) i _ found_first refl refl first)
