-- A tick puts no chest down.
use Rattle.std.proofs.Common.{◌≡◌, ◌≢◌, ◌⊎◌, ℕ, zero, suc, Bool, true, false, inl, inr, List, [], ◌∷◌, ◌++◌, map, drop, slice_get, Some, refl, sym, ap, ◌∙◌}
use Rattle.vx_geom.specs.declared.pos.Pos.{Pos}
use Rattle.vx_block.specs.declared.cell.Cell.{Cell}
use Rattle.vx_block.specs.declared.cell.Cell.TheVariants as cell
use Rattle.vx_block.specs.declared.mobility.Mobility.TheVariants.{Empty, Moves, Breaks, Stays}
use Rattle.vx_block.specs.Mobilities.{mobility_of}
use Rattle.vx_cells.specs.MapLaws.{IsFilled}
use Rattle.vx_cells.specs.Maps.{MapData, cell_on}
use Rattle.vx_store.specs.Codes.{is_chest}
use Rattle.vx_power.specs.Laws.{dust_level}
use Rattle.vx_power.specs.Walks.{IsAmong}
use Rattle.vx_power.proofs.Linking.{among_either}
use Rattle.vx_part.specs.Parts.{next_of, next_part}
use Rattle.vx_piston.specs.Laws.{IsPush}
use Rattle.vx_piston.specs.Moves.{Moving, candidate}
use Rattle.vx_piston.proofs.Pushes.{pushes}
use Rattle.vx_region.specs.Regions.{Regions}
use Rattle.vx_tick.specs.declared.fate.Fate.{Fate}
use Rattle.vx_tick.specs.Ticks.{advanced, changed_up_to, moved_cells, put_down, IsTick}
use Rattle.vx_tick.proofs.Advancing.{a_change, is_one, parts_become_next}
use Rattle.vx_tick.proofs.Making.{is_from, moves_are_asked}
use Rattle.vx_tick.proofs.Movers.{Pusher, Drawer, mover, or_air}
use Rattle.vx_tick.proofs.Pairs.{push_puts, draw_puts, pulls_move}

module _ (w : Pos → Cell) (level : Pos → ℕ) (p : Pos) where
  -- the next part of a cell is a chest where the cell is one
  next_chest : (c : Cell) → is_chest (next_of w level p c) ≡ is_chest c
  unfolding next_of
  next_chest (cell.Piston d sticky extended) = refl
  next_chest (cell.Head d sticky) = refl
  next_chest cell.Air = refl
  next_chest cell.Stone = refl
  next_chest cell.Dirt = refl
  next_chest cell.Planks = refl
  next_chest cell.Glass = refl
  next_chest cell.Obsidian = refl
  next_chest cell.Bedrock = refl
  next_chest cell.Chest = refl
  next_chest (cell.Dust l) = refl
  next_chest (cell.Torch f l) = refl
  next_chest (cell.Lever f o) = refl
  next_chest (cell.Repeater r) = refl
  next_chest (cell.Lamp l) = refl

  -- and a chest stays as it is
  chest_stays : (c : Cell) → is_chest c ≡ true → next_of w level p c ≡ c
  unfolding next_of
  chest_stays cell.Chest is = refl
  chest_stays (cell.Piston d sticky extended) is = cc
  chest_stays (cell.Head d sticky) is = cc
  chest_stays cell.Air is = cc
  chest_stays cell.Stone is = cc
  chest_stays cell.Dirt is = cc
  chest_stays cell.Planks is = cc
  chest_stays cell.Glass is = cc
  chest_stays cell.Obsidian is = cc
  chest_stays cell.Bedrock is = cc
  chest_stays (cell.Dust l) is = cc
  chest_stays (cell.Torch f l) is = cc
  chest_stays (cell.Lever f o) is = cc
  chest_stays (cell.Repeater r) is = cc
  chest_stays (cell.Lamp l) is = cc

-- what moves, breaks or is empty is no chest
no_chest : (c : Cell) → (mobility_of c ≡ Stays → ⊥) → is_chest c ≡ false
no_chest c goes = by (is_chest c) refl
  where
    stays : (c : Cell) → is_chest c ≡ true → mobility_of c ≡ Stays
    stays cell.Chest is = refl
    stays (cell.Piston d sticky extended) is = cc
    stays (cell.Head d sticky) is = cc
    stays cell.Air is = cc
    stays cell.Stone is = cc
    stays cell.Dirt is = cc
    stays cell.Planks is = cc
    stays cell.Glass is = cc
    stays cell.Obsidian is = cc
    stays cell.Bedrock is = cc
    stays (cell.Dust l) is = cc
    stays (cell.Torch f l) is = cc
    stays (cell.Lever f o) is = cc
    stays (cell.Repeater r) is = cc
    stays (cell.Lamp l) is = cc

    by : (b : Bool) → is_chest c ≡ b → is_chest c ≡ false
    by true is = absurd (goes (stays c is))
    by false is = is

-- what stands at an index of a list of cells stands at one of its positions
of_place : (v : Pos → Cell) (ps : List Pos) (k : ℕ) (c : Cell) → slice_get (map v ps) k ≡ Some c
    → (r : Pos) × IsAmong ps r × (c ≡ v r)
of_place v [] k c is = cc
of_place v (r ∷ ps) zero c is = (r, inl refl, cc)
of_place v (r ∷ ps) (suc k) c is =
    let found = of_place v ps k c is in
    (found.0, inr found.1, found.2)

module _ (m : MapData) (filled : IsFilled m) where
  -- no component becomes a chest
  pub no_chest_changed : (n : ℕ) (p : Pos) (c : Cell) → IsAmong (changed_up_to m n) (p, c)
      → is_chest c ≡ false
  no_chest_changed n p c among =
      by (is_chest (cell_on m p)) refl
      (a_change (cell_on m) (dust_level (cell_on m)) p c (is_one m filled n p c among))
    where
      by : (b : Bool) → is_chest (cell_on m p) ≡ b
          → (c ≡ next_part (cell_on m) (dust_level (cell_on m)) p)
          × (next_part (cell_on m) (dust_level (cell_on m)) p ≢ cell_on m p)
          → is_chest c ≡ false
      by true is changed =
          absurd (changed.1 (chest_stays (cell_on m) (dust_level (cell_on m)) p (cell_on m p) is))
      by false is changed =
          ap is_chest changed.0
          ∙ next_chest (cell_on m) (dust_level (cell_on m)) p (cell_on m p) ∙ is

  abbrev v : Pos → Cell
  v = cell_on (advanced m)

  -- what goes has become no chest
  goes : (r : Pos) → (mobility_of (cell_on m r) ≡ Stays → ⊥) → is_chest (v r) ≡ false
  goes r away =
      ap is_chest (parts_become_next m r filled)
      ∙ next_chest (cell_on m) (dust_level (cell_on m)) r (cell_on m r)
      ∙ no_chest (cell_on m r) away

  goes_moving : (r : Pos) → mobility_of (cell_on m r) ≡ Moves → is_chest (v r) ≡ false
  goes_moving r moves = goes r (λ stays. cc)

  module _ (move : Moving) where
    -- a push puts its piston and its head down, and what goes
    push_puts_none : (by : Pusher m move.at move) → IsPush m move.at move → (n : ℕ) (c : Cell)
        → slice_get (moved_cells v move) n ≡ Some c → is_chest c ≡ false
    push_puts_none by push n c is =
        at n (ap (λ cs. slice_get cs n) (sym (push_puts m filled move by push)) ∙ is)
      where
        end : (mobility_of (cell_on m push.last) ≡ Empty) ⊎ (mobility_of (cell_on m push.last) ≡ Breaks)
            → is_chest (v push.last) ≡ false
        end (inl empty) = goes push.last (λ stays. cc)
        end (inr breaks) = goes push.last (λ stays. cc)

        row : (r : Pos) → IsAmong push.pushed r ⊎ IsAmong (push.last ∷ []) r → is_chest (v r) ≡ false
        row r (inl moves) = goes_moving r (push.each r moves)
        row r (inr (inl last)) = ap (λ q. is_chest (v q)) (sym last) ∙ end push.end
        row r (inr (inr none)) = absurd none

        at : (n : ℕ)
            → slice_get (cell.Piston move.facing by.sticky true ∷ (cell.Head move.facing by.sticky ∷ map v (push.pushed ++ push.last ∷ []))) n ≡ Some c
            → is_chest c ≡ false
        at zero found = let same : cell.Piston move.facing by.sticky true ≡ c = cc in ap is_chest (sym same)
        at (suc zero) found = let same : cell.Head move.facing by.sticky ≡ c = cc in ap is_chest (sym same)
        at (suc (suc k)) found =
            let place = of_place v (push.pushed ++ push.last ∷ []) k c found in
            ap is_chest place.2 ∙ row place.0 (among_either push.pushed (push.last ∷ []) place.0 place.1)

    -- a drawing back puts its piston down, what it pulls, and air
    draw_puts_none : (by : Drawer m move.at move) (n : ℕ) (c : Cell)
        → slice_get (moved_cells v move) n ≡ Some c → is_chest c ≡ false
    draw_puts_none by n c is = at n (ap (λ cs. slice_get cs n) (sym (draw_puts m filled move by)) ∙ is)
      where
        behind : ((r : Pos) × IsAmong (drop 2 move.cells) r × (c ≡ v r)) ⊎ (c ≡ cell.Air) → is_chest c ≡ false
        behind (inl found) =
            ap is_chest found.2 ∙ goes_moving found.0 (pulls_move m filled move by found.0 found.1)
        behind (inr air) = ap is_chest air

        at : (n : ℕ)
            → slice_get (cell.Piston move.facing by.sticky false ∷ (map v (drop 2 move.cells) ++ cell.Air ∷ [])) n ≡ Some c
            → is_chest c ≡ false
        at zero found = let same : cell.Piston move.facing by.sticky false ≡ c = cc in ap is_chest (sym same)
        at (suc k) found = behind (or_air v (drop 2 move.cells) k c found)

    -- what a piston asks for puts no chest down
    pub no_chest_moved : candidate m (dust_level (cell_on m)) move.at ≡ Some move → (n : ℕ) (c : Cell)
        → slice_get (moved_cells v move) n ≡ Some c → is_chest c ≡ false
    no_chest_moved asks n c is = elim (mover m (dust_level (cell_on m)) move.at move asks) [
      | inl by ↦ push_puts_none by (pushes m (dust_level (cell_on m)) move.at move asks by.push) n c is
      | inr by ↦ draw_puts_none by n c is
    ]

-- so the moves of a tick put none down
pub no_chest_put : (rs : Regions) (m next : MapData) (fates : List (Pos × Fate))
    (tick : IsTick rs m next fates) → IsFilled m → (p : Pos) (c : Cell)
    → IsAmong (put_down (cell_on (advanced m)) tick.moves fates) (p, c) → is_chest c ≡ false
no_chest_put rs m next fates tick filled p c among =
    let from = is_from rs m next fates tick filled p c among in
    no_chest_moved m filled from.move
    (moves_are_asked rs m next fates tick filled from.move from.made.0) from.index c from.is
