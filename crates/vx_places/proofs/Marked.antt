-- What a set of positions has, and what it has once an index of a sector was marked.
use Rattle.std.proofs.Common.{◌≡◌, ℕ, zero, suc, ◌-◌, ◌/◌, ◌<◌, Bool, true, false, ◌&&◌, ◌||◌, nat_eq, nat_le, List, [], ◌∷◌, length, get_or, set, replicate, Option, Some, None, inl, inr, refl, ap, sym, ◌∙◌, arith}
use Rattle.std.proofs.lemmas.Bool.{cases_Bool, cases_eq, cases_order, true≢false, false_from_ne_true, and_left, and_from, and_parts, eq-eqb, eqb-true, ne_eqb, le-leb, lt-leb}
use Rattle.std.proofs.Math.Bool.{and-false}
use Rattle.std.proofs.lemmas.Nat.Bits.{bit_at_above}
use Rattle.std.proofs.lemmas.List.{get_or-set_same, get_or-set_other}
use Rattle.std.proofs.lemmas.List.Elements.{All-head, All-tail}
use Rattle.std.specs.List.{All}
use Rattle.vx_geom.specs.declared.pos.Pos.{Pos}
use Rattle.vx_geom.specs.Sizes.{Sizes, AreSizes, is_inside, sector_number, sector_of, index_in_sector}
use Rattle.vx_geom.proofs.SectorLemmas.{held_at, same_index}
use Rattle.vx_cells.proofs.Indices.{numbered}
use Rattle.vx_marks.specs.Marks.{is_set, in_run}
use Rattle.vx_places.specs.Places.{PlacesData, marked_in, marks_at, in_run_from, is_at, steps_between}
use Rattle.vx_places.proofs.Steps.{is_place, not_place, place_is}

-- a position of no sector is outside the world
pub is_outside : (v : Sizes) (p : Pos) → sector_of v p ≡ None → is_inside v p ≡ false
unfolding sector_of
is_outside v p none = elim (cases_Bool (is_inside v p)) [
  | inl inside ↦ let held : Some (sector_number v p) ≡ None = rw inside at none in cc
  | inr outside ↦ outside
]

-- a position of a sector is inside
pub inside_of : (v : Sizes) (p : Pos) (k : ℕ) → sector_of v p ≡ Some k → is_inside v p ≡ true
unfolding sector_of
inside_of v p k held = elim (cases_Bool (is_inside v p)) [
  | inl inside ↦ inside
  | inr outside ↦ let none : None ≡ Some k = rw outside at held in cc
]

-- a position of a sector has its number
pub number_of : (v : Sizes) (p : Pos) (k : ℕ) → sector_of v p ≡ Some k → sector_number v p ≡ k
number_of v p k held =
    let both : Some (sector_number v p) ≡ Some k = sym (numbered v p (inside_of v p k held)) ∙ held in cc

unchanged : (o i e : Bool) → (i ≡ true → e ≡ false) → o ≡ (o || (i && e))
unchanged true i e none = refl
unchanged false true e none = sym (none refl)
unchanged false false e none = refl

-- a position outside the world adds nothing
pub outside_marked : (v : Sizes) (p : Pos) → is_inside v p ≡ false → (q : Pos) (old : Bool)
    → old ≡ (old || (is_inside v q && nat_eq (steps_between p q) 0))
outside_marked v p away q old = unchanged old (is_inside v q) (nat_eq (steps_between p q) 0) differ
  where
    differ : is_inside v q ≡ true → nat_eq (steps_between p q) 0 ≡ false
    differ inside = not_place p q (λ same. true≢false (sym inside ∙ ap (is_inside v) (sym same) ∙ away))

-- the entry of a sector in which nothing was ever marked
abbrev pub unmarked : Option (List ℕ)
unmarked = None

none_at : (n k : ℕ) → get_or (replicate n unmarked) k None ≡ None
none_at zero k = refl
none_at (suc n) zero = refl
none_at (suc n) (suc k) = none_at n k

no_entry : (marks : List (Option (List ℕ))) (k : ℕ) → All (λ entry. entry ≡ None) marks → get_or marks k None ≡ None
no_entry [] k all = refl
no_entry (entry ∷ marks) zero all = All-head (λ e. e ≡ None) entry marks all
no_entry (entry ∷ marks) (suc k) all = no_entry marks k (All-tail (λ e. e ≡ None) entry marks all)

-- where no sector has an entry there is no position
pub is_nowhere : (d : PlacesData) (p : Pos) → All (λ entry. entry ≡ None) d.marks → is_at d p ≡ false
unfolding is_at
is_nowhere d p none = by (sector_of d.sizes p)
  where
    by : (sector : Option ℕ) → marked_in (marks_at d.marks sector) (index_in_sector d.sizes p) ≡ false
    by None = refl
    by (Some k) = ap (λ entry. marked_in entry (index_in_sector d.sizes p)) (no_entry d.marks k none)

-- where nothing was ever marked there is no position
nothing_marked : (v : Sizes) (n : ℕ) (p : Pos) → is_at (record { sizes = v; marks = replicate n unmarked }) p ≡ false
unfolding is_at
nothing_marked v n p = by (sector_of v p)
  where
    by : (s : Option ℕ) → marked_in (marks_at (replicate n unmarked) s) (index_in_sector v p) ≡ false
    by None = refl
    by (Some k) = ap (λ m. marked_in m (index_in_sector v p)) (none_at n k)

-- and where no sector has an entry there is none either
pub no_entries : (d : PlacesData) (p : Pos) → d.marks ≡ [] → is_at d p ≡ false
no_entries d p none = ap (λ ms. is_at (record { sizes = d.sizes; marks = ms }) p) none ∙ nothing_marked d.sizes 0 p

-- the entries that are made first add none
pub entries_made : (v : Sizes) (old new : List (Option (List ℕ))) (n : ℕ) → old ≡ [] → new ≡ replicate n unmarked
    → (p : Pos) → is_at (record { sizes = v; marks = new }) p ≡ is_at (record { sizes = v; marks = old }) p
entries_made v old new n none made p =
    ap (λ ms. is_at (record { sizes = v; marks = ms }) p) made ∙ nothing_marked v n p
    ∙ sym (no_entries (record { sizes = v; marks = old }) p none)

-- other marks of one sector, in which a run was marked that begins with a position's index
module _ (v : Sizes) (marks : List (Option (List ℕ))) (p : Pos) (bits : ℕ) (new : Option (List ℕ))
    (there : sector_number v p < length marks)
    (changed : (i : ℕ) → marked_in new i
    ≡ (marked_in (get_or marks (sector_number v p) None) i || in_run (index_in_sector v p) bits i)) where
  abbrev k : ℕ
  k = sector_number v p

  -- at a position of that sector
  here : (q : Pos) → is_inside v q ≡ true → sector_number v q ≡ k
      → marked_in new (index_in_sector v q)
      ≡ (marked_in (get_or marks k None) (index_in_sector v q) || (is_inside v q && in_run_from v p bits q))
  here q inside same =
      let old = marked_in (get_or marks k None) (index_in_sector v q) in
      let run = in_run (index_in_sector v p) bits (index_in_sector v q) in
      changed (index_in_sector v q)
      ∙ sym (λ i. old || (inside i && (eq-eqb (sector_number v q) k same i && run)))

  -- the positions of the run were added, and no others
  pub run_marked : (q : Pos) → is_at (record { sizes = v; marks = set marks k new }) q
      ≡ (is_at (record { sizes = v; marks = marks }) q || (is_inside v q && in_run_from v p bits q))
  unfolding is_at
  run_marked q = by (sector_of v q) refl
    where
      by : (s : Option ℕ) → sector_of v q ≡ s
          → marked_in (marks_at (set marks k new) s) (index_in_sector v q)
          ≡ (marked_in (marks_at marks s) (index_in_sector v q) || (is_inside v q && in_run_from v p bits q))
      by None of_q = sym (and_left (is_inside v q) _ (is_outside v q of_q))
      by (Some j) of_q =
          let inside = inside_of v q j of_q in
          let number : sector_number v q ≡ j = number_of v q j of_q in
          elim (cases_eq j k) [
            | inl same ↦
                ap (λ n. marked_in (get_or (set marks k new) n None) (index_in_sector v q)) same
                ∙ ap (λ m. marked_in m (index_in_sector v q)) (get_or-set_same marks k new None there)
                ∙ here q inside (number ∙ same)
                ∙ ap (λ n. marked_in (get_or marks n None) (index_in_sector v q)
                || (is_inside v q && in_run_from v p bits q)) (sym same)
            | inr other ↦
                ap (λ m. marked_in m (index_in_sector v q)) (get_or-set_other marks k j new None other)
                ∙ unchanged _ (is_inside v q) _
                (λ _. and_left _ _ (ne_eqb (sector_number v q) k (λ same. other (sym number ∙ same))))
          ]

-- a run of one bit has the first index alone
one_bit : (j : ℕ) → is_set 1 j ≡ nat_eq j 0
one_bit zero = refl
one_bit (suc j) =
    ap (λ b. nat_eq b 1) (bit_at_above 1 1 (suc j) (omega arith) (omega arith)) ∙ sym (ne_eqb (suc j) 0 (λ same. omega (arith, same)))

one_run : (i first : ℕ) → in_run first 1 i ≡ nat_eq i first
one_run i first = elim (cases_order i first) [
  | inl same ↦
      let least : i - first ≡ 0 = omega (arith, same) in
      (λ j. eq-eqb (i / 64) (first / 64) (ap (λ n. n / 64) same) j
      && (le-leb first i (omega (arith, same)) j && (ap (is_set 1) least ∙ one_bit 0) j))
      ∙ sym (eq-eqb i first same)
  | inr apart ↦ elim apart [
    | inl under ↦
        ap (λ b. nat_eq (i / 64) (first / 64) && (b && is_set 1 (i - first))) (lt-leb first i under)
        ∙ and-false (nat_eq (i / 64) (first / 64)) ∙ sym (ne_eqb i first (λ same. omega (arith, same, under)))
    | inr over ↦
        let none : is_set 1 (i - first) ≡ false =
        one_bit (i - first) ∙ ne_eqb (i - first) 0 (λ same. omega (arith, same, over)) in
        ap (λ b. nat_eq (i / 64) (first / 64) && (nat_le first i && b)) none
        ∙ ap (λ b. nat_eq (i / 64) (first / 64) && b) (and-false (nat_le first i))
        ∙ and-false (nat_eq (i / 64) (first / 64)) ∙ sym (ne_eqb i first (λ same. omega (arith, same, over)))
  ]
]

-- so that a run of one bit is the position alone
pub place_run : (v : Sizes) (p : Pos) → AreSizes v → is_inside v p ≡ true → (q : Pos) → is_inside v q ≡ true
    → in_run_from v p 1 q ≡ nat_eq (steps_between p q) 0
place_run v p sizes in_p q in_q =
    ap (λ b. nat_eq (sector_number v q) (sector_number v p) && b) (one_run (index_in_sector v q) (index_in_sector v p))
    ∙ elim (cases_Bool (nat_eq (steps_between p q) 0)) [
      | inl is ↦
          let same = sym (place_is p q is) in
          and_from _ _ (eq-eqb (sector_number v q) (sector_number v p) (ap (sector_number v) same))
          (eq-eqb (index_in_sector v q) (index_in_sector v p) (ap (index_in_sector v) same)) ∙ sym is
      | inr apart ↦ false_from_ne_true _ (λ all.
          let both = and_parts _ _ all in
          let number = eqb-true (sector_number v q) (sector_number v p) both.0 in
          let k = sector_number v p in
          let held_p = held_at v p k sizes (numbered v p in_p) in
          let held_q = held_at v q k sizes (numbered v q in_q ∙ ap Some number) in
          let index = eqb-true (index_in_sector v q) (index_in_sector v p) both.1 in
          true≢false (sym (is_place p q (same_index v p q k sizes held_p held_q (sym index))) ∙ apart)) ∙ sym apart
    ]
