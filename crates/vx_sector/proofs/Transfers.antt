-- What commands that the rules allow do to the cell and the slots at their position.
use Rattle.std.proofs.Common.{◌≡◌, ◌≢◌, ℕ, ◌+◌, ◌-◌, ◌<◌, ◌≤◌, Bool, true, false, not, ◌||◌, nat_eq, nat_le, nat_lt, List, ◌∷◌, length, get_or, Option, Some, None, Ok, Err, if◌then◌else◌, refl, ap, sym, ◌∙◌, subst, rules, arith}
use Rattle.std.proofs.lemmas.Bool.{eqb-true, eqb-false, leb-false, ltb-false}
use Rattle.std.proofs.lemmas.List.{get_or-set_same, get_or-set_other}
use Rattle.vx_store.specs.declared.stack.TheConstants.{SLOTS}
use Rattle.vx_geom.specs.declared.dir.Dir.{Dir}
use Rattle.vx_geom.specs.declared.pos.Pos.{Pos}
use Rattle.vx_geom.specs.Sizes.{AreSizes}
use Rattle.vx_block.specs.declared.cell.Cell.{Cell}
use Rattle.vx_block.specs.declared.cell.Cell.TheVariants.{Chest, Lever}
use Rattle.vx_store.specs.declared.stack.Stack.{Stack}
use Rattle.vx_store.specs.Codes.{is_chest}
use Rattle.vx_cells.specs.SectorCells.{SectorCells, IsWhole, IsSlot, most_count, placed, holds, block_at, cell_at, with_content, with_slot}
use Rattle.vx_cells.proofs.CellLaws.{set_block_is_read}
use Rattle.vx_region.specs.Regions.{Regions}
use Rattle.vx_sector.specs.SectorData.{SectorData, SeatData}
use Rattle.vx_sector.specs.Slots.{count_in, holds_other, with_more, with_fewer, IsOf, HoldsMore}
use Rattle.vx_sector.specs.Acting.{refuse_if, denial, hindrances, first_some, ok_unless, is_lever, turned, slots_at, slot_at, reply_of, rules_answer}
use Rattle.vx_sector.specs.Windows.{sector_after}
use Rattle.vx_sector.specs.Laws.{LookingChangesNothing, OpeningChangesNothing, OtherSlotsStay, PuttingAddsSoMany, TakingLeavesSoManyFewer, TurningKeepsTheFacing}
use Rattle.vx_sector.specs.declared.cmd.Cmd.{Cmd}
use Rattle.vx_sector.specs.declared.cmd.Cmd.TheVariants.{Put, Take, Turn}
use Rattle.vx_sector.specs.declared.reply.Reply.{Reply}
use Rattle.vx_sector.specs.declared.refusal.Refusal.{Refusal}
use Rattle.vx_cells.proofs.Copying.{is_block_at}

same_cells_left : (b : Bool) (s t : SectorData) → t.cells ≡ s.cells → (if b then t else s).cells ≡ s.cells
same_cells_left true s t same = same
same_cells_left false s t same = refl

pub looking_changes_nothing : LookingChangesNothing
unfolding sector_after
looking_changes_nothing s seat p (Ok reply) = refl
looking_changes_nothing s seat p (Err refusal) = same_cells_left _ s _ refl

pub opening_changes_nothing : OpeningChangesNothing
unfolding sector_after
opening_changes_nothing s seat p (Ok reply) = refl
opening_changes_nothing s seat p (Err refusal) = same_cells_left _ s _ refl

-- nothing stands against what is answered with a reply
none_against : (o : Option Refusal) (x y : Reply) → ok_unless o x ≡ Ok y → o ≡ None
none_against None x y same = refl
none_against (Some refusal) x y same = cc

pub none_first : (o : Option Refusal) (os : List (Option Refusal)) → first_some (o ∷ os) ≡ None → (o ≡ None) × (first_some os ≡ None)
none_first None os none = (refl, none)
none_first (Some refusal) os none = cc

pub not_so : (b : Bool) (refusal : Refusal) → refuse_if b refusal ≡ None → b ≡ false
not_so true refusal none = cc
not_so false refusal none = refl

pub not_hindered : (regions : Regions) (c : SectorCells) (seat : SeatData) (cmd : Cmd) (reply : Reply) → rules_answer regions c seat cmd ≡ Ok reply → first_some (hindrances c cmd) ≡ None
unfolding rules_answer
not_hindered regions c seat cmd reply answer =
    (none_first (denial regions seat cmd) (hindrances c cmd) (none_against _ (reply_of regions c seat cmd) reply answer)).1

pub yes : (b : Bool) → not b ≡ false → b ≡ true
yes true h = refl
yes false h = cc

pub neither : (a b : Bool) → (a || b) ≡ false → (a ≡ false) × (b ≡ false)
neither true b h = cc
neither false b h = (refl, h)

pub a_chest : (cell : Cell) → is_chest cell ≡ true → cell ≡ Chest
a_chest cell chest = search rules

pub a_lever : (cell : Cell) → is_lever cell ≡ true → (facing : Dir) × (on : Bool) × (cell ≡ Lever facing on)
a_lever (Lever facing on) lever = (facing, on, refl)
a_lever cell lever = cc

pub of_item : (item : ℕ) (slot : Option Stack) → holds_other item slot ≡ false → IsOf item slot
of_item item None other = tt
of_item item (Some stack) other = eqb-true _ _ (yes _ other)

-- a slot of a chest, and what it holds
module _ (c : SectorCells) (p : Pos) (slot : ℕ) (whole : IsWhole c) (chest : is_chest (cell_at c p) ≡ true) (near : slot < SLOTS) where
  within : slot < length (slots_at c p)
  within = let count : length (slots_at c p) ≡ SLOTS = rw chest at (is_block_at c p whole).slots in omega (arith, near, count)

  pub was_slot : IsSlot (slot_at c p slot)
  was_slot = (is_block_at c p whole).each slot None within

-- a slot of the chest at a position has something else
module _ (c : SectorCells) (p : Pos) (slot : ℕ) (content : Option Stack) (sizes : AreSizes c.bounds) (whole : IsWhole c) (held : holds c p ≡ true) (chest : is_chest (cell_at c p) ≡ true) (near : slot < SLOTS) where
  block_there : block_at (with_slot c p slot content) p ≡ with_content (block_at c p) slot content
  block_there = set_block_is_read c p (with_content (block_at c p) slot content) sizes whole held

  slot_there : slot_at (with_slot c p slot content) p slot ≡ content
  slot_there = ap (λ b. get_or b.slots slot None) block_there ∙ get_or-set_same (slots_at c p) slot content None (within c p slot whole chest near)

  others_there : OtherSlotsStay c (with_slot c p slot content) p slot
  others_there = record {
    was = a_chest _ chest;
    is = ap (λ b. b.cell) block_there ∙ a_chest _ chest;
    others = λ k other. ap (λ b. get_or b.slots k None) block_there ∙ get_or-set_other (slots_at c p) slot k content None other;
  }

pub is_slot_number : (slot : ℕ) → nat_le SLOTS slot ≡ false → slot < SLOTS
is_slot_number slot h = leb-false SLOTS slot h

-- what is put into a slot
pub more_in : (item count : ℕ) (low : Option Stack) → IsSlot low → IsOf item low → nat_eq count 0 ≡ false → nat_lt most_count (count_in low + count) ≡ false
    → HoldsMore item count low (with_more item count low)
more_in item count low slot only some room =
    let least : count ≢ 0 = eqb-false _ _ some in
    let most = ltb-false most_count (count_in low + count) room in
    record { low_slot = slot; high_slot = (omega (arith, least), most); only = only; more = refl }

-- what is left in a slot
pub fewer_in : (count : ℕ) (high : Option Stack) → IsSlot high → nat_eq count 0 ≡ false → nat_lt (count_in high) count ≡ false
    → (item : ℕ) × HoldsMore item count (with_fewer count high) high
fewer_in count None slot some room = let least : count ≢ 0 = eqb-false _ _ some in let most = ltb-false 0 count room in absurd (omega (arith, least, most))
fewer_in count (Some stack) slot some room = (stack.item, by (nat_eq stack.count count) refl)
  where
    by : (b : Bool) → nat_eq stack.count count ≡ b
        → HoldsMore stack.item count (if b then None else Some (record stack { count = stack.count - count })) (Some stack)
    by true all =
        let same : stack.count ≡ 0 + count = omega (arith, eqb-true _ _ all) in
        record { low_slot = tt; high_slot = slot; only = tt; more = ap Some (λ i. record { item = stack.item; count = same i }) }
    by false left =
        let differ : stack.count ≢ count = eqb-false _ _ left in
        let room_for : count ≤ stack.count = ltb-false _ _ room in
        let same : stack.count ≡ (stack.count - count) + count = omega (arith, room_for) in
        record {
          low_slot = (omega (arith, differ, room_for), omega (arith, slot.1));
          high_slot = slot;
          only = refl;
          more = ap Some (λ i. record { item = stack.item; count = same i });
        }

pub putting_adds_so_many : PuttingAddsSoMany
putting_adds_so_many regions before seat p slot item count reply asked =
    let chest = none_first _ _ (not_hindered regions before seat (Put p slot item count) reply asked.answer) in
    let number = none_first _ _ chest.1 in
    let other = none_first _ _ number.1 in
    let bad = neither _ _ (not_so _ _ (none_first _ _ other.1).0) in
    let there = yes _ (not_so _ _ chest.0) in
    let near = is_slot_number slot (not_so _ _ number.0) in
    let low = slot_at before p slot in
    let content = with_more item count low in
    let held = more_in item count low (was_slot before p slot asked.whole there near) (of_item item low (not_so _ _ other.0)) bad.0 bad.1 in (
      subst (HoldsMore item count low) (sym (slot_there before p slot content asked.sizes asked.whole asked.held there near)) held,
      others_there before p slot content asked.sizes asked.whole asked.held there near,
    )

pub taking_leaves_so_many_fewer : TakingLeavesSoManyFewer
taking_leaves_so_many_fewer regions before seat p slot count reply asked =
    let chest = none_first _ _ (not_hindered regions before seat (Take p slot count) reply asked.answer) in
    let number = none_first _ _ chest.1 in
    let bad = neither _ _ (not_so _ _ (none_first _ _ number.1).0) in
    let there = yes _ (not_so _ _ chest.0) in
    let near = is_slot_number slot (not_so _ _ number.0) in
    let high = slot_at before p slot in
    let content = with_fewer count high in
    let held = fewer_in count high (was_slot before p slot asked.whole there near) bad.0 bad.1 in (
      (held.0, subst (λ low. HoldsMore held.0 count low high) (sym (slot_there before p slot content asked.sizes asked.whole asked.held there near)) held.1),
      others_there before p slot content asked.sizes asked.whole asked.held there near,
    )

pub turning_keeps_the_facing : TurningKeepsTheFacing
turning_keeps_the_facing regions before seat p reply asked =
    let none = none_first _ _ (not_hindered regions before seat (Turn p) reply asked.answer) in
    let lever = a_lever _ (yes _ (not_so _ _ none.0)) in
    let there = set_block_is_read before p (placed (turned (cell_at before p))) asked.sizes asked.whole asked.held in
    (lever.0, lever.1, lever.2, ap (λ b. b.cell) there ∙ ap turned lever.2)
