-- What stands in the cells of the moves of a tick, and in all others.
use Rattle.std.proofs.Common.{◌≡◌, ℕ, zero, suc, ◌<◌, false, inl, inr, List, [], ◌∷◌, ◌++◌, true, length, get_or, slice_get, zip, Option, Some, None, refl, sym, ap, ◌∙◌, subst, arith}
use Rattle.std.specs.List.{All}
use Rattle.std.proofs.lemmas.Bool.{both_ways, cases_eq, false≢true}
use Rattle.std.proofs.lemmas.List.Elements.{All-head, All-tail}
use Rattle.std.proofs.lemmas.List.Sorted.{All-permutation, IsPermutation-sym}
use Rattle.vx_geom.specs.declared.pos.Pos.{Pos}
use Rattle.vx_geom.specs.Places.{positions}
use Rattle.vx_geom.specs.Sizes.{is_inside, sector_number, sector_count}
use Rattle.vx_block.specs.declared.cell.Cell.{Cell}
use Rattle.vx_cells.specs.MapLaws.{block_on, IsFilled}
use Rattle.vx_cells.specs.Maps.{MapData, cell_on}
use Rattle.vx_cells.specs.SectorCells.{placed}
use Rattle.vx_power.specs.Laws.{dust_level}
use Rattle.vx_power.specs.Levels.{has}
use Rattle.vx_power.specs.Walks.{IsAmong}
use Rattle.vx_cells.proofs.Indices.{numbered, number_below}
use Rattle.vx_power.proofs.Feeding.{is_listed}
use Rattle.vx_power.proofs.Having.{has_from}
use Rattle.vx_power.proofs.Linking.{among_either, among_left, among_right}
use Rattle.vx_piston.specs.Claims.{IsBeatenBy}
use Rattle.vx_piston.specs.Moves.{Moving, candidate}
use Rattle.vx_piston.proofs.MoveLaws.{begins, inside, once}
use Rattle.vx_region.specs.Regions.{Regions}
use Rattle.vx_cause.specs.Judging.{denial}
use Rattle.vx_cause.specs.Laws.{permitted, IsMade}
use Rattle.vx_cause.proofs.Made.{moved_are_apart}
use Rattle.vx_tick.specs.declared.fate.Fate.{Fate}
use Rattle.vx_tick.specs.declared.fate.Fate.TheVariants.{Moved, Denied, Beaten}
use Rattle.vx_tick.specs.Fates.{IsFate, AreFates}
use Rattle.vx_tick.specs.Laws.{OfTicks, StaysFilled, MovesAreAsked, AskedAreMoves, OthersStay, MadeArePut}
use Rattle.vx_tick.specs.Ticks.{asked_before, asked, asked_up_to, changed_up_to, advanced, moved_cells, effects, effects_by, put_down, IsTick}
use Rattle.vx_tick.proofs.Puts.{cases_place, puts_filled, none_put, all_put}

module _ {X : Type 0} where
  -- what stands at an index is among them
  pub element : (xs : List X) (i : ℕ) (d : X) → i < length xs → IsAmong xs (get_or xs i d)
  element [] i d low = absurd (omega arith)
  element (x ∷ xs) zero d low = inl refl
  element (x ∷ xs) (suc i) d low = inr (element xs i d (omega arith))

  of_each : (P : X → Type 0) (xs : List X) (x : X) → All P xs → IsAmong xs x → P x
  of_each P [] x all among = absurd among
  of_each P (y ∷ ys) x all (inl same) = subst P same (All-head P y ys all)
  of_each P (y ∷ ys) x all (inr further) = of_each P ys x (All-tail P y ys all) further

  pub found_among : (xs : List X) (n : ℕ) (x : X) → slice_get xs n ≡ Some x → IsAmong xs x
  found_among [] n x found = cc
  found_among (y ∷ ys) zero x found = inl cc
  found_among (y ∷ ys) (suc n) x found = inr (found_among ys n x found)

module _ {X Y : Type 0} where
  -- a pair of two lists stands at one index in both
  pair_at : (xs : List X) (ys : List Y) (x : X) (y : Y) → IsAmong (zip xs ys) (x, y)
      → (n : ℕ) × (slice_get xs n ≡ Some x) × (slice_get ys n ≡ Some y)
  pair_at [] ys x y among = absurd among
  pair_at (a ∷ xs) [] x y among = absurd among
  pair_at (a ∷ xs) (b ∷ ys) x y (inl same) = (zero, ap (λ c. Some c.0) same, ap (λ c. Some c.1) same)
  pair_at (a ∷ xs) (b ∷ ys) x y (inr further) =
      let at = pair_at xs ys x y further in
      (suc at.0, at.1, at.2)

  pair_from : (xs : List X) (ys : List Y) (n : ℕ) (x : X) (y : Y)
      → slice_get xs n ≡ Some x → slice_get ys n ≡ Some y → IsAmong (zip xs ys) (x, y)
  pair_from [] ys n x y first second = cc
  pair_from (a ∷ xs) [] n x y first second = cc
  pair_from (a ∷ xs) (b ∷ ys) zero x y first second =
      let one : a ≡ x = cc in
      let other : b ≡ y = cc in
      inl (λ i. (one i, other i))
  pair_from (a ∷ xs) (b ∷ ys) (suc n) x y first second = inr (pair_from xs ys n x y first second)

-- what is asked for is asked for by the piston of the move
module _ (m : MapData) where
  asks : (ps : List Pos) (move : Moving)
      → IsAmong (asked m (dust_level (cell_on m)) ps) move
      → candidate m (dust_level (cell_on m)) move.at ≡ Some move
  asks [] move among = absurd among
  asks (p ∷ ps) move among =
      by (candidate m (dust_level (cell_on m)) p) refl (asks ps move) among
    where
      by : (o : Option Moving) → candidate m (dust_level (cell_on m)) p ≡ o
          → (IsAmong (asked m (dust_level (cell_on m)) ps) move
          → candidate m (dust_level (cell_on m)) move.at ≡ Some move)
          → IsAmong (asked_before o (asked m (dust_level (cell_on m)) ps)) move
          → candidate m (dust_level (cell_on m)) move.at ≡ Some move
      by None is rest among = rest among
      by (Some c) is rest (inl same) =
          let at = (begins m (dust_level (cell_on m)) p c is).0 in
          ap (candidate m (dust_level (cell_on m))) (ap (λ x. x.at) (sym same) ∙ at)
          ∙ is ∙ ap Some same
      by (Some c) is rest (inr further) = rest further

  asks_up_to : (n : ℕ) (move : Moving) → IsAmong (asked_up_to m n) move
      → candidate m (dust_level (cell_on m)) move.at ≡ Some move
  asks_up_to zero move among = absurd among
  asks_up_to (suc n) move among =
      elim (among_either (asked_up_to m n) _ move among) [
        | inl before ↦ asks_up_to n move before
        | inr here ↦ asks (positions m.sizes n) move here
      ]

pub moves_are_asked : OfTicks MovesAreAsked
moves_are_asked rs m next fates tick filled move among =
    let P = λ (move : Moving). candidate m (dust_level (cell_on m)) move.at ≡ Some move in
    of_each P tick.moves move
    (All-permutation P (asked_up_to m (sector_count m.sizes)) tick.moves tick.asked.all
    (λ i d low. asks_up_to m (sector_count m.sizes) _ (element _ i d low))) among

-- what a piston asks for is among what all ask for
module _ (m : MapData) (filled : IsFilled m) (move : Moving)
    (is : candidate m (dust_level (cell_on m)) move.at ≡ Some move) where
  still_among : (o : Option Moving) (moves : List Moving) → IsAmong moves move → IsAmong (asked_before o moves) move
  still_among None moves among = among
  still_among (Some other) moves among = inr among

  asked_here : (ps : List Pos) → IsAmong ps move.at → IsAmong (asked m (dust_level (cell_on m)) ps) move
  asked_here [] among = absurd among
  asked_here (p ∷ ps) (inl same) =
      subst (λ o. IsAmong (asked_before o (asked m (dust_level (cell_on m)) ps)) move)
      (sym (ap (candidate m (dust_level (cell_on m))) same ∙ is)) (inl refl)
  asked_here (p ∷ ps) (inr further) =
      still_among (candidate m (dust_level (cell_on m)) p) (asked m (dust_level (cell_on m)) ps) (asked_here ps further)

  asked_up_to_there : (n k : ℕ) → k < n → IsAmong (positions m.sizes k) move.at → IsAmong (asked_up_to m n) move
  asked_up_to_there zero k low among = absurd (omega arith)
  asked_up_to_there (suc n) k low among = elim (cases_eq k n) [
    | inl same ↦
        among_right (asked_up_to m n) _ move
        (asked_here (positions m.sizes n) (subst (λ j. IsAmong (positions m.sizes j) move.at) same among))
    | inr other ↦ among_left (asked_up_to m n) _ move (asked_up_to_there n k (omega (arith, low)) among)
  ]

  asked_of_all : IsAmong (asked_up_to m (sector_count m.sizes)) move
  asked_of_all =
      let own = begins m (dust_level (cell_on m)) move.at move is in
      let there : is_inside m.sizes move.at ≡ true =
      inside m (dust_level (cell_on m)) move.at move is move.at (subst (λ ps. IsAmong ps move.at) (sym own.2) (inl refl)) in
      let low = number_below m.sizes move.at filled.map.valid there in
      asked_up_to_there (sector_count m.sizes) (sector_number m.sizes move.at) low
      (is_listed m.sizes move.at (sector_number m.sizes move.at) filled.map.valid there (numbered m.sizes move.at there) low)

pub asked_are_moves : OfTicks AskedAreMoves
asked_are_moves rs m next fates tick filled move is =
    let P = λ (other : Moving). IsAmong tick.moves other in
    let all = asked_up_to m (sector_count m.sizes) in
    of_each P all move
    (All-permutation P tick.moves all (IsPermutation-sym all tick.moves tick.asked.all)
    (λ i d low. element tick.moves i _ low)) (asked_of_all m filled move is)

-- a move that is permitted and not beaten has no other fate than to be made
module _ (rs : Regions) (all : List Moving) where
  made_fate : (m : Moving) (fate : Fate) → IsFate rs all m fate → denial rs m ≡ None
      → IsBeatenBy (permitted rs all) m None → fate ≡ Moved
  made_fate m Moved is none first = refl
  made_fate m (Denied p rule) is none first = cc
  made_fate m (Beaten q) is none first =
      let (free, beaten) = is in
      let claim = beaten.0 in
      absurd (false≢true (sym (first claim.0 claim.1) ∙ claim.2))

  module _ (w : Pos → Cell) (p : Pos) (cell : Cell) where
    -- what is put down is put down by a move that is made
    abbrev IsPutBy : List Moving → Moving → Type 0
    IsPutBy moves m =
        IsAmong moves m × (denial rs m ≡ None) × IsBeatenBy (permitted rs all) m None
        × IsAmong (effects w m) (p, cell)

    by_one : (m : Moving) (moves : List Moving) (fate : Fate) → IsFate rs all m fate
        → IsAmong (effects_by w m fate) (p, cell) → (move : Moving) × IsPutBy (m ∷ moves) move
    by_one m moves Moved is among = let (none, first) = is in (m, (inl refl, none, first, among))
    by_one m moves (Denied q rule) is among = absurd among
    by_one m moves (Beaten q) is among = absurd among

    put_by : (moves : List Moving) (fates : List (Pos × Fate)) → AreFates rs all moves fates
        → IsAmong (put_down w moves fates) (p, cell) → (move : Moving) × IsPutBy moves move
    put_by [] fates told among = absurd among
    put_by (m ∷ moves) [] told among = absurd among
    put_by (m ∷ moves) (fate ∷ fates) told among =
        elim (among_either (effects_by w m fate.1) _ (p, cell) among) [
          | inl here ↦ by_one m moves fate.1 told.1 here
          | inr further ↦
              let found = put_by moves fates told.2 further in
              let is = found.1 in
              (found.0, (inr is.0, is.1, is.2, is.3))
        ]

    -- and a move that is made puts all its cells down
    puts : (moves : List Moving) (fates : List (Pos × Fate)) (m : Moving)
        → AreFates rs all moves fates → IsPutBy moves m → IsAmong (put_down w moves fates) (p, cell)
    puts [] fates m told is = absurd is.0
    puts (m ∷ moves) [] n told is = absurd told
    puts (m ∷ moves) (fate ∷ fates) n told is = by is.0 (puts moves fates n told.2)
      where
        by : IsAmong (m ∷ moves) n → (IsPutBy moves n → IsAmong (put_down w moves fates) (p, cell))
            → IsAmong (effects_by w m fate.1 ++ put_down w moves fates) (p, cell)
        by (inl same) rest =
            let moved = made_fate m fate.1 told.1 (ap (denial rs) same ∙ is.1)
            (subst (λ x. IsBeatenBy (permitted rs all) x None) (sym same) is.2) in
            among_left (effects_by w m fate.1) _ (p, cell)
            (subst (λ f. IsAmong (effects_by w m f) (p, cell)) (sym moved)
            (subst (λ x. IsAmong (effects w x) (p, cell)) (sym same) is.3))
        by (inr further) rest =
            among_right (effects_by w m fate.1) _ (p, cell) (rest (further, is.1, is.2, is.3))

pub stays_filled : OfTicks StaysFilled
stays_filled rs m next fates tick filled =
    let parts = puts_filled m (changed_up_to m (sector_count m.sizes)) filled in
    let moves = puts_filled (advanced m) (put_down (cell_on (advanced m)) tick.moves fates) parts.0 in
    (subst IsFilled (sym tick.after) moves.0, ap (λ n. n.sizes) tick.after ∙ moves.1 ∙ parts.1)

module _ (rs : Regions) (m next : MapData) (fates : List (Pos × Fate)) (tick : IsTick rs m next fates)
    (filled : IsFilled m) where
  abbrev pub w : Pos → Cell
  w = cell_on (advanced m)

  pub advanced_filled : IsFilled (advanced m) × ((advanced m).sizes ≡ m.sizes)
  advanced_filled = puts_filled m (changed_up_to m (sector_count m.sizes)) filled

  -- what is put down at a position is so by a move that is made and takes it
  pub record IsFrom (p : Pos) (cell : Cell) : Type 0 where
    pub move : Moving
    pub made : IsMade rs tick.moves move
    pub index : ℕ
    pub at : slice_get move.cells index ≡ Some p
    pub is : slice_get (moved_cells w move) index ≡ Some cell

  pub is_from : (p : Pos) (cell : Cell) → IsAmong (put_down w tick.moves fates) (p, cell) → IsFrom p cell
  is_from p cell among =
      let by = put_by rs tick.moves w p cell tick.moves fates tick.told among in
      let is = by.1 in
      let pair = pair_at by.0.cells (moved_cells w by.0) p cell is.3 in
      record { move = by.0; made = (is.0, is.1, is.2); index = pair.0; at = pair.1; is = pair.2 }

  others : (p : Pos) → ((move : Moving) → IsMade rs tick.moves move → has move.cells p ≡ false)
      → block_on next p ≡ block_on (advanced m) p
  others p none =
      ap (λ n. block_on n p) tick.after
      ∙ none_put (advanced m) (put_down w tick.moves fates) p advanced_filled.0
      (λ cell among.
      let from = is_from p cell among in
      both_ways _ (none from.move from.made)
      (has_from from.move.cells p (found_among from.move.cells from.index p from.at)))

  module _ (move : Moving) (n : ℕ) (p : Pos) (cell : Cell) (made : IsMade rs tick.moves move)
      (at : slice_get move.cells n ≡ Some p) (is : slice_get (moved_cells w move) n ≡ Some cell) where
    pub asked_by : candidate m (dust_level (cell_on m)) move.at ≡ Some move
    asked_by = moves_are_asked rs m next fates tick filled move made.0

    -- it is among what is put down
    pub is_put : IsAmong (put_down w tick.moves fates) (p, cell)
    is_put =
        puts rs tick.moves w p cell tick.moves fates move tick.told
        (made.0, made.1, made.2, pair_from move.cells (moved_cells w move) n p cell at is)

    one_move : (other : Cell) (from : IsFrom p other) → from.move.at ≡ move.at → other ≡ cell
    one_move other from place =
        let asks = moves_are_asked rs m next fates tick filled from.move from.made.0 in
        let both : Some from.move ≡ Some move =
        sym asks ∙ ap (candidate m (dust_level (cell_on m))) place ∙ asked_by in
        let same : from.move ≡ move = cc in
        let index : from.index ≡ n =
        once m (dust_level (cell_on m)) move.at move asked_by from.index n p
        (ap (λ x. slice_get x.cells from.index) (sym same) ∙ from.at) at in
        let found : Some other ≡ Some cell =
        sym from.is ∙ ap (λ x. slice_get (moved_cells w x) from.index) same
        ∙ ap (slice_get (moved_cells w move)) index ∙ is in
        cc

    one_cell : (other : Cell) → IsAmong (put_down w tick.moves fates) (p, other) → other ≡ cell
    one_cell other among =
        let from = is_from p other among in
        elim (cases_place from.move.at move.at) [
          | inl place ↦ one_move other from place
          | inr differ ↦
              absurd (both_ways _ (moved_are_apart rs tick.moves from.move move p differ from.made made
              (has_from from.move.cells p (found_among from.move.cells from.index p from.at)))
              (has_from move.cells p (found_among move.cells n p at)))
        ]

    pub stands : block_on next p ≡ placed cell
    stands =
        ap (λ x. block_on x p) tick.after
        ∙ all_put (advanced m) (put_down w tick.moves fates) p cell advanced_filled.0
        (ap (λ s. is_inside s p) advanced_filled.1
        ∙ inside m (dust_level (cell_on m)) move.at move asked_by p (found_among move.cells n p at))
        one_cell is_put

pub others_stay : OfTicks OthersStay
others_stay rs m next fates tick filled p none = others rs m next fates tick filled p none

pub made_are_put : OfTicks MadeArePut
made_are_put rs m next fates tick filled move n p cell made at is =
    stands rs m next fates tick filled move n p cell made at is
