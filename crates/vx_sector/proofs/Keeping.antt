-- What every command keeps in its sector: its cells whole, and the extended pistons with their heads.
use Rattle.std.proofs.Common.{◌≡◌, ◌≢◌, ◌⊎◌, ℕ, Bool, true, false, not, [], int_eq, ◌&&◌, inl, inr, Option, None, Result, Ok, Err, refl, sym, ap, ◌∙◌, subst}
use Rattle.std.specs.Bool.{Decides}
use Rattle.std.proofs.lemmas.Bool.{cases_Bool, false≢true}
use Rattle.std.proofs.lemmas.Bool.Decides.{Decides-int_eq, Decides-and, Decides-like}
use Rattle.std.proofs.lemmas.List.{length-set, length-replicate}
use Rattle.std.proofs.lemmas.List.Elements.{All-replicate, All-set}
use Rattle.vx_geom.specs.declared.pos.Pos.{Pos}
use Rattle.vx_geom.specs.Sizes.{AreSizes}
use Rattle.vx_block.specs.declared.cell.Cell.{Cell}
use Rattle.vx_block.specs.declared.cell.Cell.TheVariants as cell
use Rattle.vx_block.specs.declared.part.Part.{Part}
use Rattle.vx_block.specs.declared.part.Part.TheVariants as part
use Rattle.vx_block.specs.Part.{part_cell}
use Rattle.vx_store.specs.declared.stack.Stack.{Stack}
use Rattle.vx_cells.specs.SectorCells.{SectorCells, Block, IsWhole, IsBlock, IsSlot, slot_count, placed, holds, block_at, cell_at, with_content, with_block}
use Rattle.vx_cells.proofs.CellLaws.{set_block_is_read, other_blocks_stay}
use Rattle.vx_sector.specs.Acting.{refuse_if, is_air, is_extended, is_lever, turned, slots_at, slot_at, rules_answer, hindrance, effect_of, applied}
use Rattle.vx_sector.specs.Commands.{place_of}
use Rattle.vx_sector.specs.Laws.{StaysWhole, IsLeftExtended, LeavesExtended}
use Rattle.vx_sector.specs.SectorData.{SectorData, SeatData}
use Rattle.vx_sector.specs.Slots.{with_more, with_fewer}
use Rattle.vx_sector.specs.Windows.{answer_of, is_full, sector_after}
use Rattle.vx_sector.specs.declared.cmd.Cmd.{Cmd}
use Rattle.vx_sector.specs.declared.cmd.Cmd.TheVariants.{Look, Place, Break, Turn, OpenChest, Put, Take}
use Rattle.vx_sector.specs.declared.effect.Effect.TheVariants.{NewSlot}
use Rattle.vx_sector.specs.declared.reply.Reply.{Reply}
use Rattle.vx_sector.specs.declared.refusal.Refusal.{Refusal}
use Rattle.vx_sector.specs.declared.refusal.Refusal.TheVariants.{Occupied, Nothing, Extended, NotLever}
use Rattle.vx_sector.proofs.ActingLemmas.{refusal_leaves_cells}
use Rattle.vx_cells.proofs.Copying.{is_block_at}
use Rattle.vx_sector.proofs.Outside.{elsewhere_is_refused, full_is_refused, answered_by_the_rules}
use Rattle.vx_sector.proofs.Transfers.{none_first, not_so, not_hindered, yes, neither, a_lever, is_slot_number, more_in, fewer_in, of_item, was_slot}

-- a command leaves the cells, or nothing stands in its way and it does what it does
module _ (P : SectorCells → Type 0) (s : SectorData) (seat : SeatData) (cmd : Cmd) (before : P s.cells) (done : holds s.cells (place_of cmd) ≡ true → hindrance s.cells cmd ≡ None → P (applied s.cells (place_of cmd) (effect_of s.cells cmd))) where
  refused : (answer : Result Reply Refusal) (refusal : Refusal) → answer ≡ Err refusal → P (sector_after s seat cmd answer).cells
  refused answer refusal is = subst P (sym (ap (λ a. (sector_after s seat cmd a).cells) is ∙ refusal_leaves_cells s seat cmd refusal)) before

  by_rules : holds s.cells (place_of cmd) ≡ true → (answer : Result Reply Refusal) → rules_answer s.version.policy s.cells seat cmd ≡ answer → P (sector_after s seat cmd answer).cells
  unfolding sector_after
  by_rules held (Err refusal) is = refused (Err refusal) refusal refl
  by_rules held (Ok reply) is = done held (not_hindered s.version.policy s.cells seat cmd reply is)

  pub after_command : P (sector_after s seat cmd (answer_of s seat cmd)).cells
  after_command = elim (cases_Bool (holds s.cells (place_of cmd))) [
    | inr other ↦ refused _ _ (elsewhere_is_refused s seat cmd other)
    | inl held ↦ elim (cases_Bool (is_full s)) [
      | inl full ↦ refused _ _ (full_is_refused s seat cmd held full)
      | inr free ↦ by_rules held (answer_of s seat cmd) (answered_by_the_rules s seat cmd held free)
    ]
  ]

-- the same number and size, and whole
abbrev IsLeftWhole : SectorCells → SectorCells → Type 0
IsLeftWhole before after = IsWhole after × (after.bounds ≡ before.bounds) × (after.sector ≡ before.sector)

placed_block : (cell : Cell) → IsBlock (placed cell)
placed_block cell = record { slots = length-replicate (slot_count cell) None; each = All-replicate IsSlot (slot_count cell) None tt }

with_whole : (c : SectorCells) (p : Pos) (block : Block) → IsBlock block → IsWhole c → IsLeftWhole c (with_block c p block)
unfolding with_block
with_whole c p block is whole = (
  record {
    whole = length-set c.blocks _ block ∙ whole.whole;
    each = All-set IsBlock c.blocks _ block is whole.each;
  },
  refl,
  refl,
)

-- another content of a slot
with_slot_whole : (c : SectorCells) (p : Pos) (slot : ℕ) (content : Option Stack) → IsSlot content → IsWhole c → IsLeftWhole c (applied c p (NewSlot slot content))
with_slot_whole c p slot content is whole =
    let was = is_block_at c p whole in
    with_whole c p (with_content (block_at c p) slot content) (record {
      slots = length-set (slots_at c p) slot content ∙ was.slots;
      each = All-set IsSlot (slots_at c p) slot content is was.each;
    }) whole

-- what a slot is left with is a slot, where there is a chest
module _ (c : SectorCells) (p : Pos) (slot : ℕ) (whole : IsWhole c) where
  left_by_put : (item count : ℕ) → hindrance c (Put p slot item count) ≡ None → IsSlot (with_more item count (slot_at c p slot))
  left_by_put item count none =
      let chest = none_first _ _ none in
      let number = none_first _ _ chest.1 in
      let other = none_first _ _ number.1 in
      let bad = neither _ _ (not_so _ _ (none_first _ _ other.1).0) in
      let there = yes _ (not_so _ _ chest.0) in
      let near = is_slot_number slot (not_so _ _ number.0) in
      let low = slot_at c p slot in
      (more_in item count low (was_slot c p slot whole there near) (of_item item low (not_so _ _ other.0)) bad.0 bad.1).high_slot

  left_by_take : (count : ℕ) → hindrance c (Take p slot count) ≡ None → IsSlot (with_fewer count (slot_at c p slot))
  left_by_take count none =
      let chest = none_first _ _ none in
      let number = none_first _ _ chest.1 in
      let bad = neither _ _ (not_so _ _ (none_first _ _ number.1).0) in
      let there = yes _ (not_so _ _ chest.0) in
      let near = is_slot_number slot (not_so _ _ number.0) in
      let high = slot_at c p slot in
      (fewer_in count high (was_slot c p slot whole there near) bad.0 bad.1).1.low_slot

-- what a command does that nothing stands against
whole_done : (c : SectorCells) (cmd : Cmd) → IsWhole c → hindrance c cmd ≡ None → IsLeftWhole c (applied c (place_of cmd) (effect_of c cmd))
whole_done c (Look p) whole none = (whole, refl, refl)
whole_done c (Place p part) whole none = with_whole c p _ (placed_block (part_cell part)) whole
whole_done c (Break p) whole none = with_whole c p _ (placed_block cell.Air) whole
whole_done c (Turn p) whole none = with_whole c p _ (placed_block (turned (cell_at c p))) whole
whole_done c (OpenChest p) whole none = (whole, refl, refl)
whole_done c (Put p slot item count) whole none = with_slot_whole c p slot _ (left_by_put c p slot whole item count none) whole
whole_done c (Take p slot count) whole none = with_slot_whole c p slot _ (left_by_take c p slot whole count none) whole

pub sectors_stay_whole : StaysWhole
sectors_stay_whole s seat cmd whole =
    after_command (IsLeftWhole s.cells) s seat cmd (whole, refl, refl) (λ held none. whole_done s.cells cmd whole none)

-- two positions are one, or two
pub cases_place : (p q : Pos) → (p ≡ q) ⊎ (p ≢ q)
cases_place p q = by (int_eq p.y q.y && int_eq p.z q.z && int_eq p.x q.x) refl
  where
    decided : Decides (int_eq p.y q.y && int_eq p.z q.z && int_eq p.x q.x) (p ≡ q)
    decided =
        Decides-like _ (λ h i. record { y = h.0.0 i; z = h.0.1 i; x = h.1 i })
        (λ e. ((ap (λ a. a.y) e, ap (λ a. a.z) e), ap (λ a. a.x) e))
        (Decides-and _ _ (Decides-and _ _ (Decides-int_eq p.y q.y) (Decides-int_eq p.z q.z)) (Decides-int_eq p.x q.x))

    by : (b : Bool) → (int_eq p.y q.y && int_eq p.z q.z && int_eq p.x q.x) ≡ b → (p ≡ q) ⊎ (p ≢ q)
    by true is = inl (decided.0 is)
    by false other = inr (λ same. false≢true (sym other ∙ decided.1 same))

-- neither is an extended piston or a head
neither_extended : (before after : Cell) → is_extended before ≡ false → is_extended after ≡ false → IsLeftExtended before after
neither_extended before after was is = (λ so. absurd (false≢true (sym was ∙ so)), λ so. absurd (false≢true (sym is ∙ so)))

left_as_is : (before after : Cell) → after ≡ before → IsLeftExtended before after
left_as_is before after same = (λ so. same, λ so. same)

air_not_extended : (cell : Cell) → is_air cell ≡ true → is_extended cell ≡ false
air_not_extended cell.Air is = refl
air_not_extended other is = cc

part_not_extended : (part : Part) → is_extended (part_cell part) ≡ false
part_not_extended part.Stone = refl
part_not_extended part.Dirt = refl
part_not_extended part.Planks = refl
part_not_extended part.Glass = refl
part_not_extended part.Obsidian = refl
part_not_extended part.Bedrock = refl
part_not_extended part.Chest = refl
part_not_extended part.Dust = refl
part_not_extended (part.Torch facing) = refl
part_not_extended (part.Lever facing) = refl
part_not_extended (part.Repeater facing delay) = refl
part_not_extended part.Lamp = refl
part_not_extended (part.Piston facing sticky) = refl

-- something else at a position, and what stands there and elsewhere
module _ (c : SectorCells) (p q : Pos) (sizes : AreSizes c.bounds) (whole : IsWhole c) (at_p : holds c p ≡ true) (at_q : holds c q ≡ true) where
  with_extended : (block : Block) → IsLeftExtended (cell_at c p) block.cell → IsLeftExtended (cell_at c q) (cell_at (with_block c p block) q)
  with_extended block left = elim (cases_place q p) [
    | inl same ↦ subst (λ r. IsLeftExtended (cell_at c r) (cell_at (with_block c p block) r)) (sym same)
        (subst (λ (b : Block). IsLeftExtended (cell_at c p) b.cell) (sym (set_block_is_read c p block sizes whole at_p)) left)
    | inr other ↦ left_as_is _ _ (ap (λ (b : Block). b.cell) (other_blocks_stay c p q block sizes at_p at_q other))
  ]

-- what a command does that nothing stands against, at a position of its sector
module _ (c : SectorCells) (q : Pos) (sizes : AreSizes c.bounds) (whole : IsWhole c) (at_q : holds c q ≡ true) where
  extended_done : (cmd : Cmd) → holds c (place_of cmd) ≡ true → hindrance c cmd ≡ None → IsLeftExtended (cell_at c q) (cell_at (applied c (place_of cmd) (effect_of c cmd)) q)
  extended_done (Look p) held none = left_as_is _ _ refl
  extended_done (Place p part) held none =
      let here = none_first (refuse_if (not (is_air (cell_at c p))) Occupied) [] none in
      with_extended c p q sizes whole held at_q _
      (neither_extended (cell_at c p) (part_cell part) (air_not_extended (cell_at c p) (yes _ (not_so _ Occupied here.0))) (part_not_extended part))
  extended_done (Break p) held none =
      let something = none_first (refuse_if (is_air (cell_at c p)) Nothing) _ none in
      let here = none_first (refuse_if (is_extended (cell_at c p)) Extended) _ something.1 in
      with_extended c p q sizes whole held at_q _
      (neither_extended (cell_at c p) cell.Air (not_so _ Extended here.0) refl)
  extended_done (Turn p) held none =
      let here = none_first (refuse_if (not (is_lever (cell_at c p))) NotLever) [] none in
      let lever = a_lever (cell_at c p) (yes _ (not_so _ NotLever here.0)) in
      with_extended c p q sizes whole held at_q _
      (neither_extended (cell_at c p) (turned (cell_at c p)) (ap is_extended lever.2) (ap (λ cell. is_extended (turned cell)) lever.2))
  extended_done (OpenChest p) held none = left_as_is _ _ refl
  extended_done (Put p slot item count) held none = with_extended c p q sizes whole held at_q _ (left_as_is _ _ refl)
  extended_done (Take p slot count) held none = with_extended c p q sizes whole held at_q _ (left_as_is _ _ refl)

pub extended_pistons_stay : LeavesExtended
extended_pistons_stay s seat cmd q sizes whole held =
    after_command (λ c. IsLeftExtended (cell_at s.cells q) (cell_at c q)) s seat cmd (left_as_is _ _ refl)
    (λ at_p none. extended_done s.cells q sizes whole held cmd at_p none)
