-- The moves of a tick stand in the strict order of their pistons' positions, and so do the fates.
use Rattle.std.proofs.Common.{◌≡◌, ◌≢◌, ℕ, zero, suc, ◌+◌, ◌<◌, ◌≤◌, true, false, inl, inr, List, [], ◌∷◌, ◌++◌, slice_get, Option, Some, None, refl, sym, ap, ◌∙◌, subst, arith}
use Rattle.std.specs.Bool.{⊤}
use Rattle.std.proofs.lemmas.Bool.{cases_Bool}
use Rattle.vx_geom.specs.declared.pos.Pos.{Pos}
use Rattle.vx_geom.specs.Order.{comes_before}
use Rattle.vx_geom.specs.Places.{position_in_sector, positions_from, positions}
use Rattle.vx_geom.specs.Sizes.{Sizes, AreSizes, sector_count, sector_cells, sector_of, index_in_sector}
use Rattle.vx_geom.proofs.Places.{indices_are_places}
use Rattle.vx_cells.specs.Maps.{MapData, cell_on}
use Rattle.vx_power.specs.Laws.{dust_level}
use Rattle.vx_power.specs.Walks.{IsAmong}
use Rattle.vx_power.proofs.Linking.{among_either}
use Rattle.vx_piston.specs.Moves.{Moving, candidate}
use Rattle.vx_piston.proofs.Firsts.{one_place}
use Rattle.vx_piston.proofs.MoveLaws.{begins}
use Rattle.vx_region.specs.Regions.{Regions}
use Rattle.vx_tick.specs.declared.fate.Fate.{Fate}
use Rattle.vx_tick.specs.Fates.{fate_of, fates_of}
use Rattle.vx_tick.specs.Laws.{OfTicks}
use Rattle.vx_tick.specs.Ticks.{asked_before, asked, asked_up_to, inserted, ordered, moves_of, fates_on}
use Rattle.vx_tick_laws.specs.ToldFates.{ToldInOrder}
use Rattle.vx_tick.proofs.OneTick.{tick_is_stepped}

-- no move among these is of a piston at p
abbrev IsFree : Pos → List Moving → Type 0
IsFree p moves = (move : Moving) → IsAmong moves move → move.at ≢ p

-- each move is of another piston
abbrev AreApart : List Moving → Type 0
AreApart [] = ⊤
AreApart (m ∷ moves) = IsFree m.at moves × AreApart moves

both_apart : (xs ys : List Moving) → AreApart xs → AreApart ys
    → ((x y : Moving) → IsAmong xs x → IsAmong ys y → y.at ≢ x.at) → AreApart (xs ++ ys)
both_apart [] ys of_xs of_ys other = of_ys
both_apart (x ∷ xs) ys of_xs of_ys other = (
  λ move among. elim (among_either xs ys move among) [
    | inl before ↦ of_xs.0 move before
    | inr behind ↦ other x move (inl refl) behind
  ],
  both_apart xs ys of_xs.1 of_ys (λ a b before behind. other a b (inr before) behind),
)

-- a move among those inserted is that or another
among_inserted : (m : Moving) (moves : List Moving) (x : Moving) → IsAmong (inserted m moves) x
    → IsAmong (m ∷ moves) x
among_inserted m [] x among = among
among_inserted m (n ∷ moves) x among = elim (cases_Bool (comes_before n.at m.at)) [
  | inl before ↦ elim (rw before at among) [
    | inl same ↦ inr (inl same)
    | inr further ↦ elim (among_inserted m moves x further) [
      | inl same ↦ inl same
      | inr other ↦ inr (inr other)
    ]
  ]
  | inr behind ↦ rw behind at among
]

among_ordered : (moves : List Moving) (x : Moving) → IsAmong (ordered moves) x → IsAmong moves x
among_ordered [] x among = absurd among
among_ordered (m ∷ moves) x among = elim (among_inserted m (ordered moves) x among) [
  | inl same ↦ inl same
  | inr further ↦ inr (among_ordered moves x further)
]

-- each comes before the next
abbrev IsBefore : Moving → List Moving → Type 0
IsBefore m [] = ⊤
IsBefore m (n ∷ moves) = comes_before m.at n.at ≡ true

abbrev Ascend : List Moving → Type 0
Ascend [] = ⊤
Ascend (m ∷ moves) = IsBefore m moves × Ascend moves

still_before : (n m : Moving) (moves : List Moving) → comes_before n.at m.at ≡ true → IsBefore n moves
    → IsBefore n (inserted m moves)
still_before n m [] before is = before
still_before n m (x ∷ moves) before is = elim (cases_Bool (comes_before x.at m.at)) [
  | inl first ↦ rw first is
  | inr behind ↦ rw behind before
]

comes_first : (m n : Moving) → comes_before n.at m.at ≡ false → n.at ≢ m.at
    → comes_before m.at n.at ≡ true
comes_first m n behind differ = elim (cases_Bool (comes_before m.at n.at)) [
  | inl is ↦ is
  | inr none ↦ absurd (differ (one_place n.at m.at behind none))
]

insert_ascends : (m : Moving) (moves : List Moving) → Ascend moves → IsFree m.at moves
    → Ascend (inserted m moves)
insert_ascends m [] up free = (tt, tt)
insert_ascends m (n ∷ moves) up free = elim (cases_Bool (comes_before n.at m.at)) [
  | inl before ↦
      rw before
      (still_before n m moves before up.0, insert_ascends m moves up.1 (λ x among. free x (inr among)))
  | inr behind ↦ rw behind (comes_first m n behind (free n (inl refl)), up)
]

ascends : (moves : List Moving) → AreApart moves → Ascend (ordered moves)
ascends [] apart = tt
ascends (m ∷ moves) apart =
    insert_ascends m (ordered moves) (ascends moves apart.1)
    (λ x among. apart.0 x (among_ordered moves x among))

-- a position from an index on has that index or a later one
index_at : (v : Sizes) (k first n : ℕ) (p : Pos) → IsAmong (positions_from v k first n) p
    → (i : ℕ) × (first ≤ i) × (i < first + n) × (p ≡ position_in_sector v k i)
index_at v k first zero p among = absurd among
index_at v k first (suc n) p (inl same) = (first, omega arith, omega arith, sym same)
index_at v k first (suc n) p (inr further) =
    let found = index_at v k (suc first) n p further in
    (found.0, omega (arith, found.1), omega (arith, found.2), found.3)

module _ (m : MapData) where
  abbrev asks : Pos → Option Moving
  asks = candidate m (dust_level (cell_on m))

  -- what is asked for at positions is so by a piston at one of them
  at_one : (ps : List Pos) (move : Moving) → IsAmong (asked m (dust_level (cell_on m)) ps) move
      → IsAmong ps move.at
  at_one [] move among = absurd among
  at_one (p ∷ ps) move among = by (asks p) refl (at_one ps move) among
    where
      by : (o : Option Moving) → asks p ≡ o
          → (IsAmong (asked m (dust_level (cell_on m)) ps) move → IsAmong ps move.at)
          → IsAmong (asked_before o (asked m (dust_level (cell_on m)) ps)) move
          → IsAmong (p ∷ ps) move.at
      by None is rest among = inr (rest among)
      by (Some one) is rest (inl same) =
          inl (sym (begins m (dust_level (cell_on m)) p one is).0 ∙ ap (λ x. x.at) same)
      by (Some one) is rest (inr further) = inr (rest further)

  module _ (k : ℕ) (sizes : AreSizes m.sizes) (low : k < sector_count m.sizes) where
    one_index : (i j : ℕ) → i < sector_cells m.sizes → j < sector_cells m.sizes
        → position_in_sector m.sizes k i ≡ position_in_sector m.sizes k j → i ≡ j
    one_index i j i_low j_low same =
        let places = indices_are_places m.sizes k sizes low in
        sym (places.indexed i i_low) ∙ ap (index_in_sector m.sizes) same ∙ places.indexed j j_low

    apart_from : (first n : ℕ) → first + n ≤ sector_cells m.sizes
        → AreApart (asked m (dust_level (cell_on m)) (positions_from m.sizes k first n))
    apart_from first zero most = tt
    apart_from first (suc n) most =
        by (asks (position_in_sector m.sizes k first)) refl
        (apart_from (suc first) n (omega (arith, most)))
      where
        p : Pos
        p = position_in_sector m.sizes k first

        by : (o : Option Moving) → asks p ≡ o
            → AreApart (asked m (dust_level (cell_on m)) (positions_from m.sizes k (suc first) n))
            → AreApart (asked_before o (asked m (dust_level (cell_on m)) (positions_from m.sizes k (suc first) n)))
        by None is rest = rest
        by (Some one) is rest = (
          λ move among same.
              let found =
              index_at m.sizes k (suc first) n move.at
              (at_one (positions_from m.sizes k (suc first) n) move among) in
              let index =
              one_index found.0 first (omega (arith, found.2, most)) (omega (arith, most))
              (sym found.3 ∙ same ∙ (begins m (dust_level (cell_on m)) p one is).0) in
              absurd (omega (arith, found.1, index)),
          rest,
        )

    of_sector : (move : Moving) → IsAmong (asked m (dust_level (cell_on m)) (positions m.sizes k)) move
        → sector_of m.sizes move.at ≡ Some k
    unfolding positions
    of_sector move among =
        let found =
        index_at m.sizes k 0 (sector_cells m.sizes) move.at
        (at_one (positions m.sizes k) move among) in
        ap (sector_of m.sizes) found.3
        ∙ (indices_are_places m.sizes k sizes low).held found.0 (omega (arith, found.2))

    apart_in : AreApart (asked m (dust_level (cell_on m)) (positions m.sizes k))
    unfolding positions
    apart_in = apart_from 0 (sector_cells m.sizes) (omega arith)

  module _ (sizes : AreSizes m.sizes) where
    of_earlier : (n : ℕ) → n ≤ sector_count m.sizes → (move : Moving) → IsAmong (asked_up_to m n) move
        → (k : ℕ) × (k < n) × (sector_of m.sizes move.at ≡ Some k)
    of_earlier zero most move among = absurd among
    of_earlier (suc n) most move among =
        elim (among_either (asked_up_to m n) _ move among) [
          | inl before ↦
              let found = of_earlier n (omega (arith, most)) move before in
              (found.0, omega (arith, found.1), found.2)
          | inr here ↦ (n, omega arith, of_sector n sizes (omega (arith, most)) move here)
        ]

    apart_up_to : (n : ℕ) → n ≤ sector_count m.sizes → AreApart (asked_up_to m n)
    apart_up_to zero most = tt
    apart_up_to (suc n) most =
        both_apart (asked_up_to m n) (asked m (dust_level (cell_on m)) (positions m.sizes n))
        (apart_up_to n (omega (arith, most))) (apart_in n sizes (omega (arith, most)))
        (λ x y before here same.
        let earlier = of_earlier n (omega (arith, most)) x before in
        let both : Some n ≡ Some earlier.0 =
        sym (of_sector n sizes (omega (arith, most)) y here) ∙ ap (sector_of m.sizes) same ∙ earlier.2 in
        let index : n ≡ earlier.0 = cc in
        absurd (omega (arith, earlier.1, index)))

    moves_ascend : Ascend (moves_of m)
    moves_ascend =
        ascends (asked_up_to m (sector_count m.sizes)) (apart_up_to (sector_count m.sizes) (omega arith))

module _ (rs : Regions) (all : List Moving) where
  -- what is told of moves that ascend does so
  told_ascend : (moves : List Moving) → Ascend moves → (n : ℕ) (a b : Pos × Fate)
      → slice_get (fates_of rs all moves) n ≡ Some a → slice_get (fates_of rs all moves) (suc n) ≡ Some b
      → comes_before a.0 b.0 ≡ true
  told_ascend [] up n a b first second = cc
  told_ascend (m ∷ []) up n a b first second = cc
  told_ascend (m ∷ k ∷ moves) up zero a b first second =
      let one : (m.at, fate_of rs all m) ≡ a = cc in
      let other : (k.at, fate_of rs all k) ≡ b = cc in
      subst (λ x. comes_before x.0 b.0 ≡ true) one
      (subst (λ x. comes_before m.at x.0 ≡ true) other up.0)
  told_ascend (m ∷ k ∷ moves) up (suc n) a b first second =
      told_ascend (k ∷ moves) up.1 n a b first second

pub told_in_order : OfTicks ToldInOrder
unfolding fates_on
told_in_order rs m next fates tick filled n a b first second =
    let told = (tick_is_stepped rs m next fates tick).1 in
    told_ascend rs (moves_of m) (moves_of m) (moves_ascend m filled.map.valid) n a b
    (ap (λ fs. slice_get fs n) (sym told) ∙ first)
    (ap (λ fs. slice_get fs (suc n)) (sym told) ∙ second)
