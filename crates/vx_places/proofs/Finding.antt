-- What is found of a sector, and of all of them.
use Rattle.std.proofs.Common.{◌≡◌, ℕ, zero, suc, ◌+◌, ◌<◌, ◌≤◌, Bool, true, false, ◌&&◌, ◌||◌, cond, nat_eq, nat_lt, List, [], ◌∷◌, ◌++◌, get_or, Option, Some, None, inl, inr, refl, ap, sym, ◌∙◌, arith}
use Rattle.std.specs.List.{filter, list_any}
use Rattle.std.specs.Option.{option_map_or}
use Rattle.std.proofs.lemmas.Bool.{cases_Bool, cases_eq, cases_order, and_parts, and_from, or_left, or_from, false_from_ne_true, true≢false, eq-eqb, ne_eqb, eqb-true, lt-ltb, le-ltb}
use Rattle.std.proofs.lemmas.List.Folds.{list_any-append}
use Rattle.vx_geom.specs.declared.pos.Pos.{Pos}
use Rattle.vx_geom.specs.Places.{position_in_sector, positions_from, positions}
use Rattle.vx_geom.specs.Sizes.{Sizes, AreSizes, sector_count, sector_cells, sector_number, sector_of, index_in_sector}
use Rattle.vx_geom.proofs.Places.{position_held, position_found}
use Rattle.vx_cells.proofs.Indices.{index_below, numbered, number_below}
use Rattle.vx_cells.proofs.Listing.{same_found}
use Rattle.vx_places.specs.Places.{PlacesData, marked_in, marks_at, is_at, steps_between, marked_places}
use Rattle.vx_places.proofs.Marked.{inside_of}
use Rattle.vx_places.proofs.Steps.{is_place, place_is}

-- what is not marked is not found
none_kept : (ps : List Pos) → filter (λ p. false) ps ≡ []
none_kept [] = refl
none_kept (p ∷ ps) = none_kept ps

pub none_found : (v : Sizes) (k : ℕ) → [] ≡ marked_places v k None
none_found v k = sym (none_kept (positions v k))

-- what the marks of a sector tell is what the set has there
pub sector_found : (d : PlacesData) (k : ℕ) (entry : Option (List ℕ)) → AreSizes d.sizes → k < sector_count d.sizes
    → get_or d.marks k None ≡ entry
    → marked_places d.sizes k entry ≡ filter (is_at d) (positions d.sizes k)
unfolding positions is_at
sector_found d k entry sizes low is =
    same_found (λ p. marked_in entry (index_in_sector d.sizes p)) (is_at d) d.sizes k sizes low
    (λ p held. ap (λ m. marked_in m (index_in_sector d.sizes p)) (sym is)
    ∙ ap (λ s. marked_in (marks_at d.marks s) (index_in_sector d.sizes p)) (sym held))
    (sector_cells d.sizes) 0 (omega arith)

-- some of a filtered list pass a test where some of the list pass both
any_kept : (f g : Pos → Bool) (ps : List Pos) → list_any f (filter g ps) ≡ list_any (λ p. g p && f p) ps
any_kept f g [] = refl
any_kept f g (p ∷ ps) = by (g p) (any_kept f g ps)
  where
    by : (b : Bool) → list_any f (filter g ps) ≡ list_any (λ q. g q && f q) ps
        → list_any f (cond b (p ∷ filter g ps) (filter g ps)) ≡ ((b && f p) || list_any (λ q. g q && f q) ps)
    by true rest = ap (λ b. f p || b) rest
    by false rest = rest

either : (a b : Bool) → b ≡ true → (a || b) ≡ true
either true b is = refl
either false b is = is

-- a test at the positions of a sector, from an index on
module _ (v : Sizes) (k : ℕ) (f : Pos → Bool) where
  some_passes : (n from i : ℕ) → from ≤ i → i < from + n → f (position_in_sector v k i) ≡ true
      → list_any f (positions_from v k from n) ≡ true
  some_passes zero from i least less passes = absurd (omega arith)
  some_passes (suc n) from i least less passes = elim (cases_eq from i) [
    | inl same ↦ or_left _ _ (ap (λ j. f (position_in_sector v k j)) same ∙ passes)
    | inr other ↦ either (f (position_in_sector v k from)) _ (some_passes n (suc from) i (omega arith) (omega arith) passes)
  ]

  none_passes : (n from : ℕ)
      → ((i : ℕ) → from ≤ i → i < from + n → f (position_in_sector v k i) ≡ false)
      → list_any f (positions_from v k from n) ≡ false
  none_passes zero from none = refl
  none_passes (suc n) from none =
      or_from _ _ (none from (omega arith) (omega arith))
      (none_passes n (suc from) (λ i least less. none i (omega arith) (omega arith)))

-- the position is of the sector
abbrev pub is_of : Sizes → ℕ → Pos → Bool
is_of v k p = option_map_or (nat_eq k) (sector_of v p) false

-- or of one before it
abbrev pub is_before : Sizes → ℕ → Pos → Bool
is_before v k p = option_map_or (λ j. nat_lt j k) (sector_of v p) false

of_sector : (v : Sizes) (k : ℕ) (p : Pos) → is_of v k p ≡ true → sector_of v p ≡ Some k
of_sector v k p is = by (sector_of v p) is
  where
    by : (s : Option ℕ) → option_map_or (nat_eq k) s false ≡ true → s ≡ Some k
    by None is = absurd (true≢false (sym is))
    by (Some j) is = ap Some (sym (eqb-true k j is))

-- a position is found in a sector where it is of that sector and passes
pub found_there : (v : Sizes) (k : ℕ) (g : Pos → Bool) (p : Pos) → AreSizes v → k < sector_count v
    → list_any (λ q. nat_eq (steps_between q p) 0) (filter g (positions v k)) ≡ (g p && is_of v k p)
unfolding positions
found_there v k g p sizes low =
    let f : Pos → Bool = λ q. g q && nat_eq (steps_between q p) 0 in
    any_kept (λ q. nat_eq (steps_between q p) 0) g (positions_from v k 0 (sector_cells v))
    ∙ elim (cases_Bool (g p && is_of v k p)) [
      | inl passes ↦
          let parts = and_parts (g p) (is_of v k p) passes in
          let held = of_sector v k p parts.1 in
          let i = index_in_sector v p in
          let near = index_below v p sizes (inside_of v p k held) in
          let at = position_found v k sizes low p held in
          some_passes v k f (sector_cells v) 0 i (omega arith) (omega (arith, near))
          (and_from _ _ (ap g at ∙ parts.0) (is_place (position_in_sector v k i) p at)) ∙ sym passes
      | inr fails ↦
          none_passes v k f (sector_cells v) 0
          (λ i least less. false_from_ne_true _
          (λ both.
          let parts = and_parts (g (position_in_sector v k i)) _ both in
          let same = place_is (position_in_sector v k i) p parts.1 in
          let held = position_held v k sizes low i (omega (arith, less)) in
          let here : is_of v k p ≡ true =
          ap (λ s. option_map_or (nat_eq k) s false) (ap (sector_of v) (sym same) ∙ held) ∙ eq-eqb k k refl in
          true≢false (sym (and_from _ _ (ap g (sym same) ∙ parts.0) here) ∙ fails)))
          ∙ sym fails
    ]

-- all sectors before one, and that one
pub found_next : (d : PlacesData) (k : ℕ) (found more : List Pos) → AreSizes d.sizes → k < sector_count d.sizes
    → ((p : Pos) → list_any (λ q. nat_eq (steps_between q p) 0) found ≡ (is_at d p && is_before d.sizes k p))
    → more ≡ filter (is_at d) (positions d.sizes k)
    → (p : Pos) → list_any (λ q. nat_eq (steps_between q p) 0) (found ++ more) ≡ (is_at d p && is_before d.sizes (k + 1) p)
found_next d k found more sizes low so_far is p =
    list_any-append (λ q. nat_eq (steps_between q p) 0) found more
    ∙ (λ i. so_far p i || list_any (λ q. nat_eq (steps_between q p) 0) (is i))
    ∙ ap (λ b. (is_at d p && is_before d.sizes k p) || b) (found_there d.sizes k (is_at d) p sizes low)
    ∙ by (sector_of d.sizes p) (is_at d p)
  where
    one : (j : ℕ) → (nat_lt j k || nat_eq k j) ≡ nat_lt j (k + 1)
    one j = elim (cases_order j k) [
      | inl same ↦ either (nat_lt j k) _ (eq-eqb k j (sym same)) ∙ sym (lt-ltb j (k + 1) (omega arith))
      | inr apart ↦ elim apart [
        | inl less ↦ or_left _ _ (lt-ltb j k less) ∙ sym (lt-ltb j (k + 1) (omega arith))
        | inr greater ↦
            let other : k ≡ j → ⊥ = λ same. omega arith in
            or_from _ _ (le-ltb j k (omega arith)) (ne_eqb k j other) ∙ sym (le-ltb j (k + 1) (omega arith))
      ]
    ]

    by : (s : Option ℕ) (b : Bool)
        → ((b && option_map_or (λ j. nat_lt j k) s false) || (b && option_map_or (nat_eq k) s false))
        ≡ (b && option_map_or (λ j. nat_lt j (k + 1)) s false)
    by s false = refl
    by None true = refl
    by (Some j) true = one j

-- before the last all
pub found_whole : (d : PlacesData) (end : ℕ) (p : Pos) → AreSizes d.sizes → sector_count d.sizes ≤ end
    → (is_at d p && is_before d.sizes end p) ≡ is_at d p
unfolding is_at
found_whole d end p sizes past = by (sector_of d.sizes p) refl
  where
    alone : (a b : Bool) → (a ≡ true → b ≡ true) → (a && b) ≡ a
    alone true b is = is refl
    alone false b is = refl

    by : (s : Option ℕ) → sector_of d.sizes p ≡ s
        → (marked_in (marks_at d.marks s) (index_in_sector d.sizes p) && option_map_or (λ j. nat_lt j end) s false)
        ≡ marked_in (marks_at d.marks s) (index_in_sector d.sizes p)
    by None held = refl
    by (Some j) held = alone _ _ (λ _.
        let inside = inside_of d.sizes p j held in
        let both : Some (sector_number d.sizes p) ≡ Some j = sym (numbered d.sizes p inside) ∙ held in
        let number : sector_number d.sizes p ≡ j = cc in
        lt-ltb j end (omega (arith, number_below d.sizes p sizes inside, number, past)))
