-- What a tick leaves to be looked at is all where the map after it is not still.
use Rattle.std.proofs.Common.{◌≡◌, Bool, true, false, not, ◌&&◌, if◌then◌else◌, inl, inr, List, [], ◌∷◌, ◌++◌, Option, Some, None, refl, sym, ap, ◌∙◌, subst}
use Rattle.std.specs.List.{All}
use Rattle.std.proofs.lemmas.Bool.{cases_Bool, and_from, false≢true, or_left, or_right}
use Rattle.vx_geom.specs.declared.pos.Pos.{Pos}
use Rattle.vx_geom.specs.Sizes.{sector_count}
use Rattle.vx_block.specs.declared.cell.Cell.{Cell}
use Rattle.vx_block.specs.Components.{is_dust}
use Rattle.vx_cells.specs.CellsLaws.{cell_decided}
use Rattle.vx_cells.specs.MapLaws.{IsFilled}
use Rattle.vx_cells.specs.Maps.{MapData, cell_on}
use Rattle.vx_cells.specs.Wholes.{with_cells_on}
use Rattle.vx_cells.proofs.Putting.{cell_of_block}
use Rattle.vx_power.specs.Laws.{dust_level}
use Rattle.vx_power.specs.Levels.{has, same_place}
use Rattle.vx_power.specs.Local.{shown}
use Rattle.vx_power.specs.Turning.{built}
use Rattle.vx_power.specs.Walks.{IsAmong}
use Rattle.vx_power.proofs.Having.{has_joined, own_place}
use Rattle.vx_power.proofs.Showing.{built_dust, same_dust}
use Rattle.vx_part.specs.Changes.{change_at}
use Rattle.vx_part.specs.Parts.{next_part}
use Rattle.vx_part.proofs.Keeping.{parts_keep_their_build}
use Rattle.vx_piston.specs.Moves.{is_restless}
use Rattle.vx_region.specs.Regions.{Regions}
use Rattle.vx_tick.specs.declared.fate.Fate.{Fate}
use Rattle.vx_tick.specs.Leaving.{IsWorked, StaysDust, shows_same, shown_changes, hidden_changes, places_of}
use Rattle.vx_tick.specs.Ticks.{advanced, changed_up_to, stepped}
use Rattle.vx_tick.proofs.Advancing.{no_change, a_change, is_among, is_one, parts_become_next}
use Rattle.vx_tick.proofs.Plans.{all_among}
use Rattle.vx_tick.proofs.Puts.{none_put, puts_filled}
use Rattle.vx_still.specs.Stillness.{LeavesStill}
use Rattle.vx_still.specs.Waking.{WakingData}

-- each change of a tick by its parts puts dust down where dust stood, and nowhere else
pub stays_dust : (m : MapData) → IsFilled m → (puts : List (Pos × Cell)) → puts ≡ changed_up_to m (sector_count m.sizes)
    → All (StaysDust (cell_on m)) puts
stays_dust m filled puts is =
    all_among (StaysDust (cell_on m)) puts (λ (put : Pos × Cell) among.
    let p = put.0 in
    let cell = put.1 in
    let n = sector_count m.sizes in
    let change = a_change (cell_on m) (dust_level (cell_on m)) p cell
    (is_one m filled n p cell (subst (λ xs. IsAmong xs (p, cell)) is among)) in
    ap is_dust change.0
    ∙ built_dust (next_part (cell_on m) (dust_level (cell_on m)) p) (cell_on m p)
    (parts_keep_their_build (cell_on m) (dust_level (cell_on m)) p))

module _ (w : Pos → Cell) where
  in_rest : (b : Bool) (p q : Pos) (ps : List Pos) → has ps p ≡ true
      → has (if b then ps else q ∷ ps) p ≡ true
  in_rest true p q ps is = is
  in_rest false p q ps is = or_right (same_place p q) (has ps p) is

  in_more : (b : Bool) (p q : Pos) (ps : List Pos) → has ps p ≡ true
      → has (if b then q ∷ ps else ps) p ≡ true
  in_more true p q ps is = or_right (same_place p q) (has ps p) is
  in_more false p q ps is = is

  -- what shows other than what stood there is among those positions
  shown_there : (puts : List (Pos × Cell)) (p : Pos) (cell : Cell) → IsAmong puts (p, cell)
      → shows_same cell (w p) ≡ false → has (shown_changes w puts) p ≡ true
  shown_there [] p cell among other = absurd among
  shown_there (put ∷ puts) p cell (inl same) other =
      ap (λ b. has (if b then shown_changes w puts else put.0 ∷ shown_changes w puts) p)
      (ap (λ x. shows_same x.1 (w x.0)) same ∙ other)
      ∙ or_left (same_place p put.0) (has (shown_changes w puts) p)
      (ap (λ x. same_place p x.0) same ∙ own_place p)
  shown_there (put ∷ puts) p cell (inr further) other =
      in_rest (shows_same put.1 (w put.0)) p put.0 (shown_changes w puts)
      (shown_there puts p cell further other)

  -- and what shows the same, but is no dust, among those
  hidden_there : (puts : List (Pos × Cell)) (p : Pos) (cell : Cell) → IsAmong puts (p, cell)
      → (shows_same cell (w p) && not (is_dust cell)) ≡ true → has (hidden_changes w puts) p ≡ true
  hidden_there [] p cell among is = absurd among
  hidden_there (put ∷ puts) p cell (inl same) is =
      ap (λ b. has (if b then put.0 ∷ hidden_changes w puts else hidden_changes w puts) p)
      (ap (λ x. shows_same x.1 (w x.0) && not (is_dust x.1)) same ∙ is)
      ∙ or_left (same_place p put.0) (has (hidden_changes w puts) p)
      (ap (λ x. same_place p x.0) same ∙ own_place p)
  hidden_there (put ∷ puts) p cell (inr further) is =
      in_more (shows_same put.1 (w put.0) && not (is_dust put.1)) p put.0 (hidden_changes w puts)
      (hidden_there puts p cell further is)

-- the position of what is put down is among those of all
place_there : (puts : List (Pos × Cell)) (p : Pos) (cell : Cell) → IsAmong puts (p, cell)
    → has (places_of puts) p ≡ true
place_there [] p cell among = absurd among
place_there (put ∷ puts) p cell (inl same) =
    or_left (same_place p put.0) (has (places_of puts) p)
    (ap (λ x. same_place p x.0) same ∙ own_place p)
place_there (put ∷ puts) p cell (inr further) =
    or_right (same_place p put.0) (has (places_of puts) p) (place_there puts p cell further)

module _ (rs : Regions) (m : MapData) (changes moved : List (Pos × Cell))
    (fates : List (Pos × Fate)) (filled : IsFilled m) (worked : IsWorked rs m changes moved fates)
    (waking : WakingData) (pistons : List Pos)
    (rebuilt_is : waking.rebuilt ≡ places_of moved)
    (turned_is : waking.turned ≡ shown_changes (cell_on m) changes)
    (besides_is : waking.besides ≡ hidden_changes (cell_on m) changes ++ pistons)
    (restless : (p : Pos) → is_restless (cell_on m) (dust_level (cell_on m)) p ≡ true
    → has pistons p ≡ true) where
  -- what is looked at besides
  hidden : (p : Pos) → has (hidden_changes (cell_on m) changes) p ≡ true → has waking.besides p ≡ true
  hidden p is =
      ap (λ ps. has ps p) besides_is ∙ has_joined (hidden_changes (cell_on m) changes) pistons p
      ∙ or_left (has (hidden_changes (cell_on m) changes) p) (has pistons p) is

  would_move : (p : Pos) → is_restless (cell_on m) (dust_level (cell_on m)) p ≡ true
      → has waking.besides p ≡ true
  would_move p is =
      ap (λ ps. has ps p) besides_is ∙ has_joined (hidden_changes (cell_on m) changes) pistons p
      ∙ or_right (has (hidden_changes (cell_on m) changes) p) (has pistons p) (restless p is)

  -- where nothing was rebuilt nothing was moved, and the next part stands
  stands : (p : Pos) → has waking.rebuilt p ≡ false
      → cell_on (stepped rs m) p ≡ next_part (cell_on m) (dust_level (cell_on m)) p
  stands p unbuilt =
      ap (λ n. cell_on n p) worked.after
      ∙ sym (cell_of_block (with_cells_on (advanced m) moved) p)
      ∙ ap (λ b. b.cell) (none_put (advanced m) moved p
      (puts_filled m (changed_up_to m (sector_count m.sizes)) filled).0
      (λ cell among. false≢true (sym unbuilt ∙ ap (λ ps. has ps p) rebuilt_is ∙ place_there moved p cell among)))
      ∙ cell_of_block (advanced m) p
      ∙ parts_become_next m p filled

  among : (p : Pos) (cell : Cell) → change_at (cell_on m) (dust_level (cell_on m)) p ≡ Some cell
      → IsAmong changes (p, cell)
  among p cell is =
      subst (λ xs. IsAmong xs (p, cell)) (sym worked.parts) (is_among m filled p cell is)

  -- which shows what stood there, where nothing was turned
  shows_still : (p : Pos) → has waking.turned p ≡ false → (o : Option Cell)
      → change_at (cell_on m) (dust_level (cell_on m)) p ≡ o
      → shown (next_part (cell_on m) (dust_level (cell_on m)) p) ≡ shown (cell_on m p)
  shows_still p unturned None none =
      ap shown (no_change (cell_on m) (dust_level (cell_on m)) p none)
  shows_still p unturned (Some cell) some =
      ap shown (sym (a_change (cell_on m) (dust_level (cell_on m)) p cell some).0)
      ∙ elim (cases_Bool (shows_same cell (cell_on m p))) [
        | inl same ↦ (cell_decided (shown cell) (shown (cell_on m p))).0 same
        | inr other ↦
            absurd (false≢true (sym unturned ∙ ap (λ ps. has ps p) turned_is
            ∙ shown_there (cell_on m) changes p cell (among p cell some) other))
      ]

  -- and which is the same, if it is no dust and not looked at besides
  same_still : (p : Pos) → has waking.turned p ≡ false → has waking.besides p ≡ false
      → is_dust (cell_on m p) ≡ false → (o : Option Cell)
      → change_at (cell_on m) (dust_level (cell_on m)) p ≡ o
      → next_part (cell_on m) (dust_level (cell_on m)) p ≡ cell_on m p
  same_still p unturned away other None none =
      no_change (cell_on m) (dust_level (cell_on m)) p none
  same_still p unturned away other (Some cell) some =
      let is = (a_change (cell_on m) (dust_level (cell_on m)) p cell some).0 in
      let alike = ap shown is ∙ shows_still p unturned (Some cell) some in
      let no_dust = same_dust cell (cell_on m p) alike ∙ other in
      absurd (false≢true (sym away ∙ hidden p
      (hidden_there (cell_on m) changes p cell (among p cell some)
      (and_from (shows_same cell (cell_on m p)) (not (is_dust cell))
      ((cell_decided (shown cell) (shown (cell_on m p))).1 alike) (ap not no_dust)))))

  pub leaves_still : LeavesStill m (stepped rs m) waking
  leaves_still = record {
    builds = λ p unbuilt.
        ap built (stands p unbuilt)
        ∙ parts_keep_their_build (cell_on m) (dust_level (cell_on m)) p;
    parts = stands;
    shows = λ p unbuilt unturned.
        ap shown (stands p unbuilt)
        ∙ shows_still p unturned (change_at (cell_on m) (dust_level (cell_on m)) p) refl;
    others = λ p unbuilt unturned away other.
        stands p unbuilt
        ∙ same_still p unturned away other (change_at (cell_on m) (dust_level (cell_on m)) p) refl;
    pistons = would_move;
  }
