-- A tick told by the map before it.
use Rattle.std.proofs.Common.{◌≡◌, ℕ, false, inl, inr, List, ◌++◌, refl, sym, ap, ◌∙◌, subst}
use Rattle.std.specs.List.{All}
use Rattle.vx_geom.specs.declared.pos.Pos.{Pos}
use Rattle.vx_geom.specs.Sizes.{sector_count}
use Rattle.vx_block.specs.declared.cell.Cell.{Cell}
use Rattle.vx_cells.specs.MapLaws.{IsFilled}
use Rattle.vx_cells.specs.Maps.{MapData, cell_on}
use Rattle.vx_store.specs.Codes.{is_chest}
use Rattle.vx_cells.specs.Wholes.{with_cells_on}
use Rattle.vx_power.specs.Levels.{AreAllLevels}
use Rattle.vx_power.specs.Walks.{IsAmong}
use Rattle.vx_power.proofs.Linking.{among_either}
use Rattle.vx_part.specs.Parts.{next_part}
use Rattle.vx_piston.specs.Moves.{Moving}
use Rattle.vx_region.specs.Regions.{Regions}
use Rattle.vx_tick.specs.declared.fate.Fate.{Fate}
use Rattle.vx_tick.specs.Fates.{AreFates}
use Rattle.vx_tick.specs.Leaving.{IsWorked}
use Rattle.vx_tick.specs.Ticks.{advanced, changed_up_to, put_down, fates_on, stepped, AreMoves, IsTick}
use Rattle.vx_tick.proofs.Advancing.{parts_become_next}
use Rattle.vx_tick.proofs.Puts.{cells_joined}
use Rattle.vx_tick.proofs.Making.{element}
use Rattle.vx_tick.proofs.NoChests.{no_chest_changed, no_chest_put}
use Rattle.vx_tick.proofs.OneTick.{tick_is_stepped}

-- what holds of each that is among them holds of all
pub all_among : {X : Type 0} (P : X → Type 0) (xs : List X) → ((x : X) → IsAmong xs x → P x) → All P xs
all_among P xs each = λ i d low. each _ (element xs i d low)

module _ (m : MapData) (level : Pos → ℕ) (filled : IsFilled m) (exact : AreAllLevels m level) where
  -- each next part is what stands when all have become theirs
  stands_next : (p : Pos) → next_part (cell_on m) level p ≡ cell_on (advanced m) p
  stands_next p =
      (λ i. next_part (cell_on m) (λ q. exact q i) p) ∙ sym (parts_become_next m p filled)

  module _ (rs : Regions) (moves : List Moving) (fates : List (Pos × Fate)) (are : AreMoves m moves)
      (told : AreFates rs moves moves fates) where
    abbrev changed : List (Pos × Cell)
    changed = changed_up_to m (sector_count m.sizes)

    -- so moves put the same down by these
    same_puts : put_down (next_part (cell_on m) level) moves fates
        ≡ put_down (cell_on (advanced m)) moves fates
    same_puts = λ i. put_down (λ p. stands_next p i) moves fates

    -- what a tick puts down
    abbrev puts : List (Pos × Cell)
    puts = changed ++ put_down (next_part (cell_on m) level) moves fates

    tick : IsTick rs m (with_cells_on m puts) fates
    tick = record {
      moves = moves;
      asked = are;
      told = told;
      after =
          cells_joined m changed (put_down (next_part (cell_on m) level) moves fates)
          ∙ ap (with_cells_on (advanced m)) same_puts;
    }

    -- that is the map after the tick, with its fates
    planned : (with_cells_on m puts ≡ stepped rs m) × (fates ≡ fates_on rs m)
    planned = tick_is_stepped rs m (with_cells_on m puts) fates tick

    -- and no chest is put down
    no_chest : (put : Pos × Cell) → IsAmong puts put → is_chest put.1 ≡ false
    unfolding tick
    no_chest put among = elim (among_either changed _ put among) [
      | inl part ↦ no_chest_changed m filled (sector_count m.sizes) put.0 put.1 part
      | inr moved ↦
          no_chest_put rs m (with_cells_on m puts) fates tick filled put.0 put.1
          (subst (λ list. IsAmong list put) same_puts moved)
    ]

-- the changes, and what these moves put down by the next parts, are what a tick does
pub is_worked : (m : MapData) (level : Pos → ℕ) (rs : Regions) (moves : List Moving)
    (fates : List (Pos × Fate)) (changes moved : List (Pos × Cell))
    → IsFilled m → AreAllLevels m level → AreMoves m moves → AreFates rs moves moves fates
    → changes ≡ changed_up_to m (sector_count m.sizes)
    → moved ≡ put_down (next_part (cell_on m) level) moves fates
    → IsWorked rs m changes moved fates
is_worked m level rs moves fates changes moved filled exact are told changed put =
    subst (λ xs. IsWorked rs m xs moved fates) (sym changed)
    (subst (λ ys. IsWorked rs m (changed_up_to m (sector_count m.sizes)) ys fates) (sym put)
    (record {
      parts = refl;
      after =
          sym (planned m level filled exact rs moves fates are told).0
          ∙ cells_joined m (changed_up_to m (sector_count m.sizes))
          (put_down (next_part (cell_on m) level) moves fates);
      told = (planned m level filled exact rs moves fates are told).1;
      chests =
          all_among (λ (put : Pos × Cell). is_chest put.1 ≡ false) _
          (no_chest m level filled exact rs moves fates are told);
    }))

-- told in one list, that is the map after the tick
pub all_puts : (rs : Regions) (m : MapData) (changes moved all : List (Pos × Cell))
    (fates : List (Pos × Fate)) → IsWorked rs m changes moved fates → all ≡ changes ++ moved
    → stepped rs m ≡ with_cells_on m all
all_puts rs m changes moved all fates worked joined =
    worked.after
    ∙ ap (λ xs. with_cells_on (with_cells_on m xs) moved) (sym worked.parts)
    ∙ sym (cells_joined m changes moved)
    ∙ ap (with_cells_on m) (sym joined)

pub no_chests : (rs : Regions) (m : MapData) (changes moved all : List (Pos × Cell))
    (fates : List (Pos × Fate)) → IsWorked rs m changes moved fates → all ≡ changes ++ moved
    → All (λ (put : Pos × Cell). is_chest put.1 ≡ false) all
no_chests rs m changes moved all fates worked joined =
    subst (All (λ (put : Pos × Cell). is_chest put.1 ≡ false)) (sym joined) worked.chests
