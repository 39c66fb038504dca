-- What the machines of a tick leave at a position.
use Rattle.std.proofs.Common.{◌≡◌, ◌⊎◌, ℕ, Bool, true, false, if◌then◌else◌, List, [], ◌∷◌, length, slice_get, Option, Some, None, refl, sym, ap, ◌∙◌, subst, inl, inr, arith}
use Rattle.std.proofs.lemmas.Bool.{cases_Bool, both_ways}
use Rattle.vx_geom.specs.declared.pos.Pos.{Pos}
use Rattle.vx_geom.specs.Sizes.{sector_of, sector_count}
use Rattle.vx_block.specs.Repeating.{Repeating}
use Rattle.vx_block.specs.declared.cell.Cell.{Cell}
use Rattle.vx_block.specs.declared.cell.Cell.TheVariants as cell
use Rattle.vx_cells.specs.MapLaws.{block_in, block_on, IsFilled}
use Rattle.vx_cells.specs.Maps.{MapData, sector_at, cell_on}
use Rattle.vx_store.specs.Codes.{is_chest}
use Rattle.vx_cells.specs.SectorCells.{SectorCells, Block, IsWhole, IsBlock, slot_count, placed}
use Rattle.vx_cells.proofs.Putting.{cell_of_block}
use Rattle.vx_region.specs.Regions.{Regions}
use Rattle.vx_power.specs.Laws.{dust_level}
use Rattle.vx_power.specs.Levels.{has}
use Rattle.vx_power.specs.Walks.{IsAmong}
use Rattle.vx_power.proofs.Having.{has_at}
use Rattle.vx_part.specs.Parts.{next_of, next_repeater}
use Rattle.vx_piston.specs.Claims.{IsBeatenBy}
use Rattle.vx_piston.specs.Moves.{Moving}
use Rattle.vx_cause.specs.Judging.{denial, pushing_verdict}
use Rattle.vx_cause.specs.Laws.{permitted, IsPermit}
use Rattle.vx_cause.proofs.Plots.{cell_by_cell}
use Rattle.vx_cells.proofs.Copying.{is_block_at}
use Rattle.vx_tick.specs.declared.fate.Fate.{Fate}
use Rattle.vx_tick.specs.declared.fate.Fate.TheVariants.{Moved, Denied, Beaten}
use Rattle.vx_tick.specs.Fates.{IsFate, AreFates}
use Rattle.vx_tick.specs.Ticks.{advanced, changed_up_to, fates_on, stepped, IsTick}
use Rattle.vx_tick.proofs.Advancing.{parts_become_next, unchanged_stay}
use Rattle.vx_tick.proofs.Making.{moves_are_asked, others_stay}
use Rattle.vx_tick.proofs.OneTick.{stepped_is_tick}
use Rattle.vx_tick.proofs.Puts.{puts_filled}
use Rattle.vx_windows.proofs.Sparing.{of_found}
use Rattle.vx_record.specs.Owners.{built, as_built, standing, IsAskedOn}

-- a repeater keeps its facing and its delay
repeater_built : (b c : Bool) (r : Repeating) (wait : ℕ) (on : Bool)
    → built (cell.Repeater (if b then r else (if c then r else record r { wait = wait; on = on }))) ≡ built (cell.Repeater r)
repeater_built true c r wait on = refl
repeater_built false true r wait on = refl
repeater_built false false r wait on = refl

module _ (w : Pos → Cell) (level : Pos → ℕ) (p : Pos) where
  -- what a part becomes is built as it was
  stays_built : (c : Cell) → built (next_of w level p c) ≡ built c
  unfolding next_of next_repeater
  stays_built (cell.Dust old) = refl
  stays_built (cell.Torch facing lit) = refl
  stays_built (cell.Lamp old) = refl
  stays_built (cell.Repeater r) = repeater_built _ _ r _ _
  stays_built other = refl

  -- and stays as it is, or is no chest
  stays_or_no_chest : (c : Cell)
      → (next_of w level p c ≡ c) ⊎ ((is_chest c ≡ false) × (is_chest (next_of w level p c) ≡ false))
  unfolding next_of
  stays_or_no_chest (cell.Dust old) = inr (refl, refl)
  stays_or_no_chest (cell.Torch facing lit) = inr (refl, refl)
  stays_or_no_chest (cell.Lamp old) = inr (refl, refl)
  stays_or_no_chest (cell.Repeater r) = inr (refl, refl)
  stays_or_no_chest other = inl refl

-- what stands at a position of a map has the slots of its cell
block_of_map : (m : MapData) (p : Pos) → IsFilled m → IsBlock (block_on m p)
unfolding block_on
block_of_map m p filled = by (sector_of m.sizes p)
  where
    air : IsBlock (placed cell.Air)
    air = record { slots = refl; each = λ k d low. absurd (omega (arith, low)) }

    found : (o : Option SectorCells) (k : ℕ) → slice_get m.sectors k ≡ o → IsBlock (block_in o p)
    found None k is = air
    found (Some c) k is = is_block_at c p (of_found IsWhole m.sectors k c filled.each is)

    by : (k : Option ℕ) → IsBlock (block_in (sector_at m.sectors k) p)
    by None = air
    by (Some k) = found (slice_get m.sectors k) k refl

none_of : {X : Type 0} (xs : List X) → length xs ≡ 0 → xs ≡ []
none_of [] none = refl
none_of (x ∷ xs) none = absurd (omega (arith, none))

no_slots_on : (m : MapData) (p : Pos) → IsFilled m → is_chest (block_on m p).cell ≡ false → (block_on m p).slots ≡ []
no_slots_on m p filled none =
    let count : slot_count (block_on m p).cell ≡ 0 = rw none refl in
    none_of (block_on m p).slots ((block_of_map m p filled).slots ∙ count)

same_block : (a b : Block) → built a.cell ≡ built b.cell → a.slots ≡ b.slots
    → as_built a ≡ as_built b
same_block a b cell slots = λ i. record { cell = cell i; slots = slots i }

-- before any move, what stands anywhere stays, whatever signals it gets
advanced_stands : (m : MapData) (p : Pos) → IsFilled m → standing (advanced m) p ≡ standing m p
advanced_stands m p filled =
    let w = cell_on m in
    let c = w p in
    let level = dust_level w in
    let more = (puts_filled m (changed_up_to m (sector_count m.sizes)) filled).0 in
    let was : (block_on m p).cell ≡ c = cell_of_block m p in
    let is : (block_on (advanced m) p).cell ≡ next_of w level p c =
    cell_of_block (advanced m) p ∙ parts_become_next m p filled in
    elim (stays_or_no_chest w level p c) [
      | inl same ↦ ap as_built (unchanged_stay m p filled same)
      | inr none ↦
          same_block (block_on (advanced m) p) (block_on m p)
          (ap built is ∙ stays_built w level p c ∙ sym (ap built was))
          (no_slots_on (advanced m) p more (ap is_chest is ∙ none.1)
          ∙ sym (no_slots_on m p filled (ap is_chest was ∙ none.0)))
    ]

module _ (rs : Regions) (m : MapData) (filled : IsFilled m) (p : Pos) where
  -- a move that was made took the position
  pub record IsTaken : Type 0 where
    pub move : Moving
    pub asked : IsAskedOn m move
    pub told : IsAmong (fates_on rs m) (move.at, Moved)
    pub taken : IsAmong move.cells p
    pub permitted : (q : Pos) → IsAmong move.cells q → IsPermit (pushing_verdict rs move.at q)

  tick : IsTick rs m (stepped rs m) (fates_on rs m)
  tick = stepped_is_tick rs m

  -- of these moves one was made and took it, or none that is made takes it
  abbrev Found : List Moving → List (Pos × Fate) → Type 0
  Found moves fates =
      ((move : Moving) × IsAmong moves move × IsAmong fates (move.at, Moved) × (denial rs move ≡ None) × (has move.cells p ≡ true))
      ⊎ ((move : Moving) → IsAmong moves move → denial rs move ≡ None → IsBeatenBy (permitted rs tick.moves) move None
      → has move.cells p ≡ false)

  next_told : (m : Moving) (told : Pos × Fate) (moves : List Moving) (fates : List (Pos × Fate)) → told.0 ≡ m.at
      → IsFate rs tick.moves m told.1 → Found moves fates → Found (m ∷ moves) (told ∷ fates)
  next_told move told moves fates at is (inl further) =
      inl (further.0, inr further.1, inr further.2, further.3, further.4)
  next_told move (q, Moved) moves fates at is (inr none) = elim (cases_Bool (has move.cells p)) [
    | inl takes ↦ inl (move, inl refl, inl (ap (λ r. (r, Moved)) at), is.0, takes)
    | inr free ↦ inr (λ other among free_of unbeaten. elim among [
      | inl same ↦ subst (λ (x : Moving). has x.cells p ≡ false) same free
      | inr further ↦ none other further free_of unbeaten
    ])
  ]
  next_told move (q, Denied r rule) moves fates at is (inr none) = inr (λ other among free_of unbeaten. elim among [
    | inl same ↦
        let both : Some (r, rule) ≡ None = sym is ∙ ap (denial rs) same ∙ free_of in cc
    | inr further ↦ none other further free_of unbeaten
  ])
  next_told move (q, Beaten by) moves fates at is (inr none) = inr (λ other among free_of unbeaten. elim among [
    | inl same ↦
        let claim = is.1.0 in
        absurd (both_ways _ (subst (λ x. IsBeatenBy (permitted rs tick.moves) x None) (sym same) unbeaten claim.0 claim.1) claim.2)
    | inr further ↦ none other further free_of unbeaten
  ])

  search : (moves : List Moving) (fates : List (Pos × Fate)) → AreFates rs tick.moves moves fates → Found moves fates
  search [] [] are = inr (λ move among free unbeaten. absurd among)
  search [] (told ∷ fates) are = absurd are
  search (m ∷ moves) [] are = absurd are
  search (m ∷ moves) (told ∷ fates) are = next_told m told moves fates are.0 are.1 (search moves fates are.2)

  -- after the tick there stands what stood there, or a move took it
  pub stepped_stands : (standing (stepped rs m) p ≡ standing m p) ⊎ IsTaken
  stepped_stands = elim (search tick.moves (fates_on rs m) tick.told) [
    | inl made ↦ inr (record {
      move = made.0;
      asked = is_asked made.0 made.1;
      told = made.2;
      taken = has_at made.0.cells p made.4;
      permitted = (cell_by_cell rs made.0).0 made.3;
    })
    | inr none ↦
        inl (ap as_built
        (others_stay rs m (stepped rs m) (fates_on rs m) tick filled p (λ move made. none move made.0 made.1 made.2))
        ∙ advanced_stands m p filled)
  ]
    where
      is_asked : (move : Moving) → IsAmong tick.moves move → IsAskedOn m move
      is_asked move among = moves_are_asked rs m (stepped rs m) (fates_on rs m) tick filled move among
