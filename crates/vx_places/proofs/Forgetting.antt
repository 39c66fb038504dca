-- What a set of positions has once one of them was taken away.
use Rattle.std.proofs.Common.{◌≡◌, ℕ, ◌*◌, ◌<◌, Bool, true, false, not, ◌&&◌, nat_eq, List, [], length, get_or, set, Option, Some, None, inl, inr, IfSome, refl, ap, sym, subst, ◌∙◌, arith}
use Rattle.std.proofs.lemmas.Bool.{cases_eq, cases_Bool, eq-eqb, ne_eqb}
use Rattle.std.proofs.lemmas.List.{length-set, get_or-set_same, get_or-set_other}
use Rattle.vx_geom.specs.declared.pos.Pos.{Pos}
use Rattle.vx_geom.specs.Sizes.{Sizes, AreSizes, is_inside, sector_cells, sector_number, sector_of, index_in_sector}
use Rattle.vx_geom.proofs.SectorLemmas.{held_at, same_index}
use Rattle.vx_cells.proofs.Indices.{numbered}
use Rattle.vx_places.specs.Places.{PlacesData, marked_in, marks_at, is_at, steps_between, HasRoom, ArePlaces}
use Rattle.vx_places.proofs.Marked.{number_of, no_entries}
use Rattle.vx_places.proofs.Steps.{is_place, not_place, place_is}

-- a mark stays where another is taken away
stays : (b t : Bool) → t ≡ false → b ≡ (b && not t)
stays true t apart = sym (ap not apart)
stays false t apart = refl

-- no set has a position outside its world
none_outside : (d : PlacesData) (p : Pos) → is_inside d.sizes p ≡ false → is_at d p ≡ false
unfolding is_at sector_of
none_outside d p outside = rw outside refl

-- to take it away changes nothing
pub outside_stays : (d : PlacesData) (p : Pos) → is_inside d.sizes p ≡ false → (q : Pos)
    → is_at d q ≡ (is_at d q && not (nat_eq (steps_between p q) 0))
outside_stays d p outside q = elim (cases_Bool (nat_eq (steps_between p q) 0)) [
  | inl is ↦
      let none = ap (is_at d) (sym (place_is p q is)) ∙ none_outside d p outside in
      none ∙ sym (ap (λ b. b && not (nat_eq (steps_between p q) 0)) none)
  | inr apart ↦ stays (is_at d q) _ apart
]

-- other marks of one sector, in which that of a position's index was taken away
module _ (v : Sizes) (sizes : AreSizes v) (marks : List (Option (List ℕ))) (p : Pos) (new : Option (List ℕ))
    (in_p : is_inside v p ≡ true) (there : sector_number v p < length marks)
    (cleared : (i : ℕ) → marked_in new i
    ≡ (marked_in (get_or marks (sector_number v p) None) i && not (nat_eq i (index_in_sector v p)))) where
  abbrev k : ℕ
  k = sector_number v p

  -- in that sector the index tells the position
  index_tells : (q : Pos) → sector_of v q ≡ Some k
      → nat_eq (index_in_sector v q) (index_in_sector v p) ≡ nat_eq (steps_between p q) 0
  index_tells q held = elim (cases_eq (index_in_sector v q) (index_in_sector v p)) [
    | inl same ↦
        let held_p = held_at v p k sizes (numbered v p in_p) in
        eq-eqb _ _ same ∙ sym (is_place p q (same_index v p q k sizes held_p (held_at v q k sizes held) (sym same)))
    | inr apart ↦ ne_eqb _ _ apart ∙ sym (not_place p q (λ one. apart (ap (index_in_sector v) (sym one))))
  ]

  -- that position was taken away, and no others
  pub place_cleared : (q : Pos) → is_at (record { sizes = v; marks = set marks k new }) q
      ≡ (is_at (record { sizes = v; marks = marks }) q && not (nat_eq (steps_between p q) 0))
  unfolding is_at
  place_cleared q = by (sector_of v q) refl
    where
      by : (s : Option ℕ) → sector_of v q ≡ s
          → marked_in (marks_at (set marks k new) s) (index_in_sector v q)
          ≡ (marked_in (marks_at marks s) (index_in_sector v q) && not (nat_eq (steps_between p q) 0))
      by None of_q = refl
      by (Some j) of_q = elim (cases_eq j k) [
        | inl same ↦
            ap (λ n. marked_in (get_or (set marks k new) n None) (index_in_sector v q)) same
            ∙ ap (λ m. marked_in m (index_in_sector v q)) (get_or-set_same marks k new None there)
            ∙ cleared (index_in_sector v q)
            ∙ ap (λ t. marked_in (get_or marks k None) (index_in_sector v q) && not t) (index_tells q (of_q ∙ ap Some same))
            ∙ ap (λ n. marked_in (get_or marks n None) (index_in_sector v q) && not (nat_eq (steps_between p q) 0)) (sym same)
        | inr other ↦
            ap (λ m. marked_in m (index_in_sector v q)) (get_or-set_other marks k j new None other)
            ∙ stays _ _
            (not_place p q (λ one. other (sym (number_of v q j of_q) ∙ ap (sector_number v) (sym one))))
      ]

-- an index of a sector is one of its marks
pub room_for : (count index : ℕ) (marks : Option (List ℕ)) → HasRoom count marks → index < count
    → IfSome marks (λ words. index < 64 * length words)
room_for count index None room low = room
room_for count index (Some words) room low = omega (arith, room, low)

-- with other marks of one sector that have room for its places it is a set of positions still
pub still_places : (v : Sizes) (marks : List (Option (List ℕ))) (k : ℕ) (new : Option (List ℕ)) → ArePlaces v marks
    → k < length marks → HasRoom (sector_cells v) new → ArePlaces v (set marks k new)
still_places v marks k new are there room = record {
  valid = are.valid;
  all = elim are.all [
    | inl none ↦ absurd (omega (arith, there, ap length none))
    | inr each ↦ inr (length-set marks k new ∙ each)
  ];
  each = λ j. elim (cases_eq j k) [
    | inl same ↦
        subst (HasRoom (sector_cells v))
        (sym (ap (λ n. get_or (set marks k new) n None) same ∙ get_or-set_same marks k new None there)) room
    | inr other ↦ subst (HasRoom (sector_cells v)) (sym (get_or-set_other marks k j new None other)) (are.each j)
  ];
}

-- where no sector has an entry nothing is taken away
pub none_forgotten : (d : PlacesData) (p q : Pos) → d.marks ≡ [] → is_at d q ≡ (is_at d q && not (nat_eq (steps_between p q) 0))
none_forgotten d p q none =
    let away = no_entries d q none in
    away ∙ sym (ap (λ here. here && not (nat_eq (steps_between p q) 0)) away)
