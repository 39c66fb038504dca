-- Pistons that are out and their heads stay paired by a tick.
use Rattle.std.proofs.Common.{◌≡◌, ◌⊎◌, ℕ, zero, suc, Bool, true, false, inl, inr, List, [], ◌∷◌, ◌++◌, map, drop, slice_get, Some, if◌then◌else◌, refl, sym, ap, ◌∙◌, subst}
use Rattle.std.proofs.lemmas.Bool.{false≢true}
use Rattle.vx_geom.specs.declared.dir.Dir.{Dir}
use Rattle.vx_geom.specs.declared.dir.Dir.TheVariants.{East, West, Up, Down, South, North}
use Rattle.vx_geom.specs.declared.pos.Pos.{Pos}
use Rattle.vx_geom.specs.Dirs.{opposite}
use Rattle.vx_geom.specs.Neighbor.{neighbor}
use Rattle.vx_geom.specs.Sizes.{is_inside}
use Rattle.vx_geom.proofs.Positions.{there_and_back}
use Rattle.vx_block.specs.declared.cell.Cell.{Cell}
use Rattle.vx_block.specs.declared.cell.Cell.TheVariants as cell
use Rattle.vx_block.specs.declared.mobility.Mobility.TheVariants.{Empty, Moves, Breaks, Stays}
use Rattle.vx_block.specs.Mobilities.{mobility_of}
use Rattle.vx_cells.specs.MapLaws.{IsFilled}
use Rattle.vx_cells.specs.Maps.{MapData, cell_on}
use Rattle.vx_cells.proofs.MapLemmas.{outside_is_air}
use Rattle.vx_cells.proofs.Putting.{cell_of_block}
use Rattle.vx_power.specs.Laws.{dust_level}
use Rattle.vx_power.specs.Walks.{IsAmong}
use Rattle.vx_power.proofs.Linking.{among_either}
use Rattle.vx_part.specs.Parts.{next_of}
use Rattle.vx_piston.specs.Laws.{steps, IsPush}
use Rattle.vx_piston.specs.Moves.{Moving, candidate, if_inside, pulled, drawing}
use Rattle.vx_piston.proofs.MoveLaws.{in_line}
use Rattle.vx_piston.proofs.Pushes.{pushes}
use Rattle.vx_region.specs.Regions.{Regions}
use Rattle.vx_cause.specs.Laws.{IsMade}
use Rattle.vx_tick.specs.declared.fate.Fate.{Fate}
use Rattle.vx_tick.specs.Laws.{OfTicks}
use Rattle.vx_tick.specs.Pairing.{IsPairedAt, IsPaired, StaysPaired}
use Rattle.vx_tick.specs.Ticks.{advanced, piston_as, head_of, pushed, drawn, moved_cells, put_down, IsTick}
use Rattle.vx_tick.proofs.Advancing.{parts_become_next}
use Rattle.vx_tick.proofs.Making.{found_among, is_from, is_put, stands, advanced_filled, moves_are_asked}
use Rattle.vx_tick.proofs.Movers.{is_tied, free, Pusher, Drawer, mover, pulled_moves, before_last, or_air}
use Rattle.vx_tick.proofs.Puts.{cases_place, none_put}

turned : (d : Dir) → opposite (opposite d) ≡ d
turned East = refl
turned West = refl
turned Up = refl
turned Down = refl
turned South = refl
turned North = refl

-- a step back and the step again
back_and_there : (p : Pos) (d : Dir) → neighbor (neighbor p (opposite d)) d ≡ p
back_and_there p d =
    ap (neighbor (neighbor p (opposite d))) (sym (turned d)) ∙ there_and_back p (opposite d)

-- what is not tied needs no other
untied : (w : Pos → Cell) (p : Pos) (c : Cell) → is_tied c ≡ false → IsPairedAt w p c
untied w p (cell.Piston d sticky true) is = cc
untied w p (cell.Piston d sticky false) is = tt
untied w p (cell.Head d sticky) is = cc
untied w p cell.Air is = tt
untied w p cell.Stone is = tt
untied w p cell.Dirt is = tt
untied w p cell.Planks is = tt
untied w p cell.Glass is = tt
untied w p cell.Obsidian is = tt
untied w p cell.Bedrock is = tt
untied w p cell.Chest is = tt
untied w p (cell.Dust l) is = tt
untied w p (cell.Torch f l) is = tt
untied w p (cell.Lever f o) is = tt
untied w p (cell.Repeater r) is = tt
untied w p (cell.Lamp l) is = tt

-- the next part of a cell goes or stays as the cell does
next_mobility : (w : Pos → Cell) (level : Pos → ℕ) (p : Pos) (c : Cell)
    → mobility_of (next_of w level p c) ≡ mobility_of c
unfolding next_of
next_mobility w level p (cell.Piston d sticky extended) = refl
next_mobility w level p (cell.Head d sticky) = refl
next_mobility w level p cell.Air = refl
next_mobility w level p cell.Stone = refl
next_mobility w level p cell.Dirt = refl
next_mobility w level p cell.Planks = refl
next_mobility w level p cell.Glass = refl
next_mobility w level p cell.Obsidian = refl
next_mobility w level p cell.Bedrock = refl
next_mobility w level p cell.Chest = refl
next_mobility w level p (cell.Dust l) = refl
next_mobility w level p (cell.Torch f l) = refl
next_mobility w level p (cell.Lever f o) = refl
next_mobility w level p (cell.Repeater r) = refl
next_mobility w level p (cell.Lamp l) = refl

module _ (m : MapData) (filled : IsFilled m) where
  abbrev v : Pos → Cell
  v = cell_on (advanced m)

  v_is : (p : Pos) → v p ≡ next_of (cell_on m) (dust_level (cell_on m)) p (cell_on m p)
  v_is p = parts_become_next m p filled

  -- pistons and heads stay while parts become others
  piston_stays : (p : Pos) (d : Dir) (sticky extended : Bool) → cell_on m p ≡ cell.Piston d sticky extended
      → v p ≡ cell.Piston d sticky extended
  unfolding next_of
  piston_stays p d sticky extended is =
      v_is p ∙ ap (next_of (cell_on m) (dust_level (cell_on m)) p) is

  head_stays : (p : Pos) (d : Dir) (sticky : Bool) → cell_on m p ≡ cell.Head d sticky
      → v p ≡ cell.Head d sticky
  unfolding next_of
  head_stays p d sticky is = v_is p ∙ ap (next_of (cell_on m) (dust_level (cell_on m)) p) is

  at_next : (p : Pos) (c : Cell) → IsPairedAt (cell_on m) p c
      → IsPairedAt v p (next_of (cell_on m) (dust_level (cell_on m)) p c)
  unfolding next_of
  at_next p (cell.Piston d sticky true) pair = head_stays (neighbor p d) d sticky pair
  at_next p (cell.Piston d sticky false) pair = tt
  at_next p (cell.Head d sticky) pair = piston_stays (neighbor p (opposite d)) d sticky true pair
  at_next p cell.Air pair = tt
  at_next p cell.Stone pair = tt
  at_next p cell.Dirt pair = tt
  at_next p cell.Planks pair = tt
  at_next p cell.Glass pair = tt
  at_next p cell.Obsidian pair = tt
  at_next p cell.Bedrock pair = tt
  at_next p cell.Chest pair = tt
  at_next p (cell.Dust l) pair = tt
  at_next p (cell.Torch f l) pair = tt
  at_next p (cell.Lever f o) pair = tt
  at_next p (cell.Repeater r) pair = tt
  at_next p (cell.Lamp l) pair = tt

  paired_after : IsPaired m → (p : Pos) → IsPairedAt v p (v p)
  paired_after paired p =
      subst (IsPairedAt v p) (sym (v_is p)) (at_next p (cell_on m p) (paired p))

  -- a cell that goes is not tied
  goes : (r : Pos) → (mobility_of (cell_on m r) ≡ Stays → ⊥) → is_tied (v r) ≡ false
  goes r away =
      free (v r) (λ stays.
      away (sym (next_mobility (cell_on m) (dust_level (cell_on m)) r (cell_on m r))
      ∙ sym (ap mobility_of (v_is r)) ∙ stays))

  moves_free : (r : Pos) → mobility_of (cell_on m r) ≡ Moves → is_tied (v r) ≡ false
  moves_free r moves = goes r (λ stays. cc)

  -- what a push and a drawing back put down
  module _ (move : Moving) where
    pub push_puts : (by : Pusher m move.at move) (push : IsPush m move.at move)
        → moved_cells v move
        ≡ cell.Piston move.facing by.sticky true ∷ (cell.Head move.facing by.sticky ∷ map v (push.pushed ++ push.last ∷ []))
    push_puts by push =
        ap (λ b. if b then pushed v move.at move.cells else drawn v move.at move.cells) by.push
        ∙ ap (pushed v move.at) push.cells
        ∙ ap (λ c. piston_as true c ∷ (head_of c ∷ map v (push.pushed ++ push.last ∷ [])))
        (piston_stays move.at move.facing by.sticky false by.piston)

    -- the cells that a push takes are not tied before
    push_takes : (by : Pusher m move.at move) (push : IsPush m move.at move) (p : Pos)
        → IsAmong move.cells p → is_tied (v p) ≡ false
    push_takes by push p among = taken (subst (λ ps. IsAmong ps p) push.cells among)
      where
        end : (mobility_of (cell_on m push.last) ≡ Empty) ⊎ (mobility_of (cell_on m push.last) ≡ Breaks)
            → is_tied (v push.last) ≡ false
        end (inl empty) = goes push.last (λ stays. cc)
        end (inr breaks) = goes push.last (λ stays. cc)

        row : IsAmong push.pushed p ⊎ IsAmong (push.last ∷ []) p → is_tied (v p) ≡ false
        row (inl moves) = moves_free p (push.each p moves)
        row (inr (inl last)) = ap (λ r. is_tied (v r)) (sym last) ∙ end push.end
        row (inr (inr none)) = absurd none

        taken : IsAmong (move.at ∷ (push.pushed ++ push.last ∷ [])) p → is_tied (v p) ≡ false
        taken (inl own) =
            ap (λ r. is_tied (v r)) (sym own)
            ∙ ap is_tied (piston_stays move.at move.facing by.sticky false by.piston)
        taken (inr further) = row (among_either push.pushed (push.last ∷ []) p further)

    draw_cells : (by : Drawer m move.at move)
        → (move.cells ≡ move.at ∷ (if_inside m (neighbor move.at move.facing)
        ++ pulled m move.facing by.sticky (neighbor (neighbor move.at move.facing) move.facing)))
        × (move.push ≡ false)
    unfolding drawing
    draw_cells by = (ap (λ x. x.cells) by.is, ap (λ x. x.push) by.is)

    pub draw_puts : (by : Drawer m move.at move) → moved_cells v move
        ≡ cell.Piston move.facing by.sticky false ∷ (map v (drop 2 move.cells) ++ cell.Air ∷ [])
    draw_puts by =
        ap (λ b. if b then pushed v move.at move.cells else drawn v move.at move.cells) (draw_cells by).1
        ∙ ap (λ c. piston_as false c ∷ (map v (drop 2 move.cells) ++ cell.Air ∷ []))
        (piston_stays move.at move.facing by.sticky true by.piston)

    -- of the cells that a drawing back takes those of its piston and its head alone are tied
    draw_takes : (by : Drawer m move.at move) (p : Pos) → IsAmong move.cells p → is_tied (v p) ≡ true
        → (p ≡ move.at) ⊎ (p ≡ neighbor move.at move.facing)
    draw_takes by p among tied = taken (subst (λ ps. IsAmong ps p) (draw_cells by).0 among)
      where
        head : (b : Bool) → IsAmong (if b then neighbor move.at move.facing ∷ [] else []) p
            → (p ≡ move.at) ⊎ (p ≡ neighbor move.at move.facing)
        head true (inl same) = inr (sym same)
        head true (inr none) = absurd none
        head false none = absurd none

        row : IsAmong (if_inside m (neighbor move.at move.facing)) p
            ⊎ IsAmong (pulled m move.facing by.sticky (neighbor (neighbor move.at move.facing) move.facing)) p
            → (p ≡ move.at) ⊎ (p ≡ neighbor move.at move.facing)
        row (inl first) = head (is_inside m.sizes (neighbor move.at move.facing)) first
        row (inr pulls) =
            absurd (false≢true (sym (moves_free p (pulled_moves m move.facing by.sticky _ p pulls)) ∙ tied))

        taken : IsAmong (move.at ∷ (if_inside m (neighbor move.at move.facing)
            ++ pulled m move.facing by.sticky (neighbor (neighbor move.at move.facing) move.facing))) p
            → (p ≡ move.at) ⊎ (p ≡ neighbor move.at move.facing)
        taken (inl own) = inl (sym own)
        taken (inr further) = row (among_either (if_inside m (neighbor move.at move.facing)) _ p further)

    -- what it pulls moves
    drop_some : (b : Bool) (h : Pos) (ps : List Pos) (r : Pos)
        → IsAmong (drop 1 ((if b then h ∷ [] else []) ++ ps)) r → IsAmong ps r
    drop_some true h ps r among = among
    drop_some false h [] r among = absurd among
    drop_some false h (p ∷ ps) r among = inr among

    pub pulls_move : (by : Drawer m move.at move) (r : Pos) → IsAmong (drop 2 move.cells) r
        → mobility_of (cell_on m r) ≡ Moves
    pulls_move by r among =
        pulled_moves m move.facing by.sticky _ r
        (drop_some (is_inside m.sizes (neighbor move.at move.facing)) (neighbor move.at move.facing) _ r
        (subst (λ ps. IsAmong (drop 2 ps) r) (draw_cells by).0 among))

    pulls : (by : Drawer m move.at move) (r : Pos) → IsAmong (drop 2 move.cells) r → is_tied (v r) ≡ false
    pulls by r among = moves_free r (pulls_move by r among)

    draw_frees : (by : Drawer m move.at move) (n : ℕ) (c : Cell)
        → slice_get (moved_cells v move) n ≡ Some c → is_tied c ≡ false
    draw_frees by n c is = at n (ap (λ cs. slice_get cs n) (sym (draw_puts by)) ∙ is)
      where
        behind : ((r : Pos) × IsAmong (drop 2 move.cells) r × (c ≡ v r)) ⊎ (c ≡ cell.Air) → is_tied c ≡ false
        behind (inl found) = ap is_tied found.2 ∙ pulls by found.0 found.1
        behind (inr air) = ap is_tied air

        at : (n : ℕ)
            → slice_get (cell.Piston move.facing by.sticky false ∷ (map v (drop 2 move.cells) ++ cell.Air ∷ [])) n ≡ Some c
            → is_tied c ≡ false
        at zero found = let same : cell.Piston move.facing by.sticky false ≡ c = cc in ap is_tied (sym same)
        at (suc k) found = behind (or_air v (drop 2 move.cells) k c found)

-- some cell is put down at a position, or none is
put_or_not : (puts : List (Pos × Cell)) (p : Pos)
    → ((c : Cell) × IsAmong puts (p, c)) ⊎ ((c : Cell) → IsAmong puts (p, c) → ⊥)
put_or_not [] p = inr (λ c among. among)
put_or_not (x ∷ xs) p = elim (cases_place x.0 p) [
  | inl here ↦ inl (x.1, inl (λ i. (here i, x.1)))
  | inr differ ↦ elim (put_or_not xs p) [
    | inl found ↦ inl (found.0, inr found.1)
    | inr none ↦ inr (λ c among. elim among [ inl same ↦ differ (ap (λ y. y.0) same) | inr further ↦ none c further ])
  ]
]

-- there is a first of these
first_of : (ps : List Pos) (last : Pos) → (r : Pos) × (slice_get (ps ++ last ∷ []) 0 ≡ Some r)
first_of [] last = (last, refl)
first_of (r ∷ ps) last = (r, refl)

first_put : (v : Pos → Cell) (ps : List Pos)
    → (c : Cell) × (slice_get (map v ps ++ cell.Air ∷ []) 0 ≡ Some c)
first_put v [] = (cell.Air, refl)
first_put v (r ∷ ps) = (v r, refl)

module _ (rs : Regions) (m next : MapData) (fates : List (Pos × Fate)) (tick : IsTick rs m next fates)
    (filled : IsFilled m) (paired : IsPaired m) where
  abbrev u : Pos → Cell
  u = cell_on next

  abbrev w : Pos → Cell
  w = cell_on (advanced m)

  abbrev Puts : Pos → Cell → Type 0
  Puts p c = IsAmong (put_down (cell_on (advanced m)) tick.moves fates) (p, c)

  -- where a cell is put down it stands, and elsewhere what the parts have become
  put_stands : (move : Moving) (n : ℕ) (p : Pos) (c : Cell) → IsMade rs tick.moves move
      → slice_get move.cells n ≡ Some p → slice_get (moved_cells w move) n ≡ Some c → u p ≡ c
  put_stands move n p c made at is =
      sym (cell_of_block next p)
      ∙ ap (λ b. b.cell) (stands rs m next fates tick filled move n p c made at is)

  none_stays : (p : Pos) → ((c : Cell) → Puts p c → ⊥) → u p ≡ w p
  none_stays p none =
      ap (λ n. cell_on n p) tick.after
      ∙ sym (cell_of_block _ p)
      ∙ ap (λ b. b.cell) (none_put (advanced m) (put_down w tick.moves fates) p
      (advanced_filled rs m next fates tick filled).0 none)
      ∙ cell_of_block (advanced m) p

  module _ (move : Moving) (made : IsMade rs tick.moves move) where
    asks : candidate m (dust_level (cell_on m)) move.at ≡ Some move
    asks = moves_are_asked rs m next fates tick filled move made.0

    lies : (n : ℕ) (p : Pos) → slice_get move.cells n ≡ Some p → p ≡ steps move.facing n move.at
    lies n p at = in_line m (dust_level (cell_on m)) move.at move asks n p at

    -- a cell that a push puts down is paired
    module _ (by : Pusher m move.at move) where
      push : IsPush m move.at move
      push = pushes m (dust_level (cell_on m)) move.at move asks by.push

      own : slice_get move.cells 0 ≡ Some move.at
      own = ap (λ ps. slice_get ps 0) push.cells

      puts_at : (n : ℕ) (c : Cell)
          → slice_get (cell.Piston move.facing by.sticky true ∷ (cell.Head move.facing by.sticky ∷ map w (push.pushed ++ push.last ∷ []))) n ≡ Some c
          → slice_get (moved_cells w move) n ≡ Some c
      puts_at n c is = ap (λ cs. slice_get cs n) (push_puts m filled move by push) ∙ is

      second : (r : Pos) × (slice_get move.cells 1 ≡ Some r)
      second =
          let first = first_of push.pushed push.last in
          (first.0, ap (λ ps. slice_get ps 1) push.cells ∙ first.1)

      piston_out : u move.at ≡ cell.Piston move.facing by.sticky true
      piston_out = put_stands move 0 move.at _ made own (puts_at 0 _ refl)

      head_out : u (neighbor move.at move.facing) ≡ cell.Head move.facing by.sticky
      head_out =
          ap u (sym (lies 1 second.0 second.1))
          ∙ put_stands move 1 second.0 _ made second.1 (puts_at 1 _ refl)

      push_paired : (n : ℕ) (p : Pos) (c : Cell) → slice_get move.cells n ≡ Some p
          → slice_get (cell.Piston move.facing by.sticky true ∷ (cell.Head move.facing by.sticky ∷ map w (push.pushed ++ push.last ∷ []))) n ≡ Some c
          → IsPairedAt u p c
      push_paired zero p c at is =
          let same : cell.Piston move.facing by.sticky true ≡ c = cc in
          subst (IsPairedAt u p) same
          (ap (λ q. u (neighbor q move.facing)) (lies 0 p at) ∙ head_out)
      push_paired (suc zero) p c at is =
          let same : cell.Head move.facing by.sticky ≡ c = cc in
          subst (IsPairedAt u p) same
          (ap (λ q. u (neighbor q (opposite move.facing))) (lies 1 p at)
          ∙ ap u (there_and_back move.at move.facing) ∙ piston_out)
      push_paired (suc (suc k)) p c at is =
          let found = before_last w push.pushed push.last k p c
          (ap (λ ps. slice_get ps (suc (suc k))) (sym push.cells) ∙ at) is in
          untied u p c (ap is_tied found.2 ∙ moves_free m filled found.0 (push.each found.0 found.1))

    put_paired : (n : ℕ) (p : Pos) (c : Cell) → slice_get move.cells n ≡ Some p
        → slice_get (moved_cells w move) n ≡ Some c → IsPairedAt u p c
    put_paired n p c at is = elim (mover m (dust_level (cell_on m)) move.at move asks) [
      | inl by ↦
          push_paired by n p c at
          (ap (λ cs. slice_get cs n) (sym (push_puts m filled move by (push by))) ∙ is)
      | inr by ↦ untied u p c (draw_frees m filled move by n c is)
    ]

  was_paired : (p : Pos) → IsPairedAt w p (w p)
  was_paired = paired_after m filled paired

  -- where a tied cell is put over, its piston drew back: it was the piston, or the head
  record IsDrawn (p : Pos) : Type 0 where
    move : Moving
    made : IsMade rs tick.moves move
    by : Drawer m move.at move
    place : (p ≡ move.at) ⊎ (p ≡ neighbor move.at move.facing)

  is_drawn : (p : Pos) (c : Cell) → Puts p c → is_tied (w p) ≡ true → IsDrawn p
  is_drawn p c among tied =
      let from = is_from rs m next fates tick filled p c among in
      let there = found_among from.move.cells from.index p from.at in
      let asking = asks from.move from.made in
      elim (mover m (dust_level (cell_on m)) from.move.at from.move asking) [
        | inl by ↦
            absurd (false≢true (sym (push_takes m filled from.move by (push from.move from.made by) p there) ∙ tied))
        | inr by ↦
            record {
              move = from.move;
              made = from.made;
              by = by;
              place = draw_takes m filled from.move by p there tied;
            }
      ]

  module _ (move : Moving) (made : IsMade rs tick.moves move) (by : Drawer m move.at move) where
    was_out : w move.at ≡ cell.Piston move.facing by.sticky true
    was_out = piston_stays m filled move.at move.facing by.sticky true by.piston

    had_head : w (neighbor move.at move.facing) ≡ cell.Head move.facing by.sticky
    had_head = subst (IsPairedAt w move.at) was_out (was_paired move.at)

    head_inside : is_inside m.sizes (neighbor move.at move.facing) ≡ true
    head_inside = known (is_inside m.sizes (neighbor move.at move.facing)) refl
      where
        known : (b : Bool) → is_inside m.sizes (neighbor move.at move.facing) ≡ b
            → is_inside m.sizes (neighbor move.at move.facing) ≡ true
        known true is = is
        known false out =
            let sizes = (advanced_filled rs m next fates tick filled).1 in
            let air = outside_is_air (advanced m) (neighbor move.at move.facing) (λ inside.
            false≢true (sym out ∙ sym (ap (λ s. is_inside s (neighbor move.at move.facing)) sizes) ∙ inside)) in
            let clash : cell.Head move.facing by.sticky ≡ cell.Air = sym had_head ∙ air in
            cc

    cells_are : move.cells ≡ move.at ∷ (neighbor move.at move.facing
        ∷ pulled m move.facing by.sticky (neighbor (neighbor move.at move.facing) move.facing))
    cells_are =
        (draw_cells m filled move by).0
        ∙ ap (λ b. move.at ∷ ((if b then neighbor move.at move.facing ∷ [] else [])
        ++ pulled m move.facing by.sticky (neighbor (neighbor move.at move.facing) move.facing))) head_inside

    -- it puts its piston and its head's place down
    piston_put : Puts move.at (cell.Piston move.facing by.sticky false)
    piston_put =
        is_put rs m next fates tick filled move 0 move.at _ made
        (ap (λ ps. slice_get ps 0) cells_are)
        (ap (λ cs. slice_get cs 0) (draw_puts m filled move by))

    head_put : (c : Cell) × Puts (neighbor move.at move.facing) c
    head_put =
        let first = first_put w (drop 2 move.cells) in (
          first.0,
          is_put rs m next fates tick filled move 1 (neighbor move.at move.facing) first.0 made
              (ap (λ ps. slice_get ps 1) cells_are)
              (ap (λ cs. slice_get cs 1) (draw_puts m filled move by) ∙ first.1),
        )

  -- what nothing is put over keeps its other
  module _ (p : Pos) (none : (c : Cell) → Puts p c → ⊥) where
    keeps_head : (d : Dir) (sticky : Bool) → w p ≡ cell.Piston d sticky true
        → w (neighbor p d) ≡ cell.Head d sticky → u (neighbor p d) ≡ cell.Head d sticky
    keeps_head d sticky is pair = elim (put_or_not (put_down w tick.moves fates) (neighbor p d)) [
      | inr free ↦ none_stays (neighbor p d) free ∙ pair
      | inl put ↦
          let drawn = is_drawn (neighbor p d) put.0 put.1 (ap is_tied pair) in
          absurd (elim drawn.place [
            | inl piston ↦
                let clash : cell.Piston drawn.move.facing drawn.by.sticky true ≡ cell.Head d sticky =
                sym (was_out drawn.move drawn.made drawn.by) ∙ ap w (sym piston) ∙ pair in
                cc
            | inr head ↦
                let both : cell.Head d sticky ≡ cell.Head drawn.move.facing drawn.by.sticky =
                sym pair ∙ ap w head ∙ had_head drawn.move drawn.made drawn.by in
                let way : d ≡ drawn.move.facing = cc in
                let place : p ≡ drawn.move.at =
                sym (there_and_back p d) ∙ ap (λ q. neighbor q (opposite d)) head
                ∙ ap (λ e. neighbor (neighbor drawn.move.at drawn.move.facing) (opposite e)) way
                ∙ there_and_back drawn.move.at drawn.move.facing in
                none _ (subst (λ q. Puts q (cell.Piston drawn.move.facing drawn.by.sticky false)) (sym place)
                (piston_put drawn.move drawn.made drawn.by))
          ])
    ]

    keeps_piston : (d : Dir) (sticky : Bool) → w p ≡ cell.Head d sticky
        → w (neighbor p (opposite d)) ≡ cell.Piston d sticky true
        → u (neighbor p (opposite d)) ≡ cell.Piston d sticky true
    keeps_piston d sticky is pair = elim (put_or_not (put_down w tick.moves fates) (neighbor p (opposite d))) [
      | inr free ↦ none_stays (neighbor p (opposite d)) free ∙ pair
      | inl put ↦
          let drawn = is_drawn (neighbor p (opposite d)) put.0 put.1 (ap is_tied pair) in
          absurd (elim drawn.place [
            | inl piston ↦
                let both : cell.Piston d sticky true ≡ cell.Piston drawn.move.facing drawn.by.sticky true =
                sym pair ∙ ap w piston ∙ was_out drawn.move drawn.made drawn.by in
                let way : d ≡ drawn.move.facing = cc in
                let place : p ≡ neighbor drawn.move.at drawn.move.facing =
                sym (back_and_there p d) ∙ ap (λ q. neighbor q d) piston
                ∙ ap (neighbor drawn.move.at) way in
                let head = head_put drawn.move drawn.made drawn.by in
                none head.0 (subst (λ q. Puts q head.0) (sym place) head.1)
            | inr head ↦
                let clash : cell.Piston d sticky true ≡ cell.Head drawn.move.facing drawn.by.sticky =
                sym pair ∙ ap w head ∙ had_head drawn.move drawn.made drawn.by in
                cc
          ])
    ]

    kept : (c : Cell) → w p ≡ c → IsPairedAt w p c → IsPairedAt u p c
    kept (cell.Piston d sticky true) is pair = keeps_head d sticky is pair
    kept (cell.Piston d sticky false) is pair = tt
    kept (cell.Head d sticky) is pair = keeps_piston d sticky is pair
    kept cell.Air is pair = tt
    kept cell.Stone is pair = tt
    kept cell.Dirt is pair = tt
    kept cell.Planks is pair = tt
    kept cell.Glass is pair = tt
    kept cell.Obsidian is pair = tt
    kept cell.Bedrock is pair = tt
    kept cell.Chest is pair = tt
    kept (cell.Dust l) is pair = tt
    kept (cell.Torch f l) is pair = tt
    kept (cell.Lever f o) is pair = tt
    kept (cell.Repeater r) is pair = tt
    kept (cell.Lamp l) is pair = tt

  paired_at : (p : Pos) → IsPairedAt u p (u p)
  paired_at p = elim (put_or_not (put_down w tick.moves fates) p) [
    | inl put ↦
        let from = is_from rs m next fates tick filled p put.0 put.1 in
        subst (IsPairedAt u p)
        (sym (put_stands from.move from.index p put.0 from.made from.at from.is))
        (put_paired from.move from.made from.index p put.0 from.at from.is)
    | inr none ↦
        subst (IsPairedAt u p) (sym (none_stays p none)) (kept p none (w p) refl (was_paired p))
  ]

pub stays_paired : OfTicks StaysPaired
stays_paired rs m next fates tick filled paired = paired_at rs m next fates tick filled paired
