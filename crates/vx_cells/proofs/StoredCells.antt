-- What is read from a stored sector, and what a change of the store is to it.
use Rattle.std.proofs.Common.{◌≡◌, ◌≢◌, ℕ, ◌<◌, Bool, true, false, not, ◌&&◌, nat_eq, List, [], length, get_or, set, slice_set, Option, Some, None, IsSome, unwrap_or, if◌then◌else◌, Decides, refl, ap, sym, ◌∙◌, inl, inr, true≢false, arith}
use Rattle.std.proofs.lemmas.List.{set-get_or, length-set}
use Rattle.std.proofs.lemmas.Bool.{cases_eq}
use Rattle.std.proofs.lemmas.List.Elements.{All-replicate, All-set}
use Rattle.std.proofs.lemmas.Map.{update_here, update_apart}
use Rattle.std.specs.Map.{update}
use Rattle.vx_store.specs.declared.stack.TheConstants.{SLOTS}
use Rattle.vx_block.specs.declared.cell.Cell.{Cell}
use Rattle.vx_block.specs.declared.cell.Cell.TheVariants.{Air}
use Rattle.vx_geom.specs.declared.pos.Pos.{Pos}
use Rattle.vx_geom.specs.Sizes.{Sizes, sector_cells, index_in_sector}
use Rattle.vx_store.specs.declared.stack.Stack.{Stack}
use Rattle.vx_store.specs.Chests.{begun, refilled, Slots, ChestData, slots_of_chest, Changes, SameSlots}
use Rattle.vx_cells.specs.CellsLaws.{sizes_decided}
use Rattle.vx_store.specs.Codes.{code_count, cell_of, is_chest}
use Rattle.vx_cells.specs.SameCells.{same_sizes}
use Rattle.vx_cells.specs.SectorCells.{IsSlot, placed, block_at, cell_at, chest_at, with_block, with_cell, with_content, with_slot}
use Rattle.vx_cells.specs.Stored.{block_of, blocks_from, stored, IsBeside, IsStored}
use Rattle.vx_cells.proofs.StoredBlocks.{block-at, blocks-changed, stored-set, same-slots, same-blocks}

begun_beside : (code : ℕ) (b : Bool) → b ≡ is_chest (cell_of code) → IsBeside code (begun b)
begun_beside code true same = (sym same, refl, All-replicate IsSlot SLOTS None tt)
begun_beside code false same = sym same

begun_placed : (code : ℕ) (b : Bool) → b ≡ is_chest (cell_of code) → unwrap_or (begun b) [] ≡ (placed (cell_of code)).slots
begun_placed code true same = rw (← same) refl
begun_placed code false same = rw (← same) refl

chest_or_none : (code : ℕ) (o : Option Slots) → IsBeside code o → o ≡ (if is_chest (cell_of code) then Some (unwrap_or o []) else None)
chest_or_none code None beside = rw beside refl
chest_or_none code (Some slots) beside = rw beside.0 refl

some_chest : (code : ℕ) (o : Option Slots) → IsBeside code o → is_chest (cell_of code) ≡ true → IsSome o
some_chest code None beside chest = absurd (true≢false (sym chest ∙ beside))
some_chest code (Some slots) beside chest = refl

refilled_beside : (code slot : ℕ) (content : Option Stack) (o : Option Slots) → IsSlot content → IsBeside code o → IsBeside code (refilled slot content o)
refilled_beside code slot content None small beside = beside
refilled_beside code slot content (Some slots) small beside = (beside.0, length-set slots slot content ∙ beside.1, All-set IsSlot slots slot content small beside.2)

refilled_slots : (slot : ℕ) (content : Option Stack) (o : Option Slots) → unwrap_or (refilled slot content o) [] ≡ slice_set (unwrap_or o []) slot content
refilled_slots slot content None = refl
refilled_slots slot content (Some slots) = refl

module _ (bounds : Sizes) (sector : ℕ) (codes : List ℕ) (chests : ChestData) (held : IsStored bounds codes chests) (p : Pos) (index : ℕ)
    (at : index ≡ index_in_sector bounds p) (within : index < sector_cells bounds) where
  near : index < length codes
  near = omega (arith, within, held.whole)

  block-stored : block_of (get_or codes index 0) chests index ≡ block_at (stored bounds sector codes chests) p
  unfolding block_at
  block-stored = sym (block-at codes chests index (placed Air) near) ∙ ap (λ k. get_or (blocks_from 0 codes chests) k (placed Air)) at

  -- the cell of the byte
  pub cell-stored : cell_of (get_or codes index 0) ≡ cell_at (stored bounds sector codes chests) p
  cell-stored = ap (λ b. b.cell) block-stored

  -- the slots in the map
  pub chest-stored : slots_of_chest chests index ≡ chest_at (stored bounds sector codes chests) p
  chest-stored = chest_or_none _ _ (held.chests index) ∙ ap (λ b. if is_chest b.cell then Some b.slots else None) block-stored

  pub chest-there : is_chest (cell_at (stored bounds sector codes chests) p) ≡ true → IsSome (slots_of_chest chests index)
  chest-there chest = some_chest _ _ (held.chests index) (ap is_chest cell-stored ∙ chest)

  -- a byte is put down, and the slots that begin with it
  module _ (new : ChestData) (code : ℕ) (b : Bool) (told : b ≡ is_chest (cell_of code)) (change : Changes chests new index (begun b)) where
    pub put-held : code < code_count → IsStored bounds (set codes index code) new
    put-held small = stored-set bounds codes chests new index code (begun b) held near small change (begun_beside code b told)

    pub put-stored : (cell : Cell) → cell_of code ≡ cell → stored bounds sector (set codes index code) new ≡ with_cell (stored bounds sector codes chests) p cell
    unfolding with_block
    put-stored cell same =
        let slots = begun_placed code b told in
        let block : record { cell = cell_of code; slots = unwrap_or (begun b) [] } ≡ placed cell = (λ i. record { cell = cell_of code; slots = slots i }) ∙ ap placed same in
        let blocks = blocks-changed codes chests new index code (begun b) near change ∙ (λ i. set (blocks_from 0 codes chests) (at i) (block i)) in
        λ i. record { bounds = bounds; sector = sector; blocks = blocks i }

  -- a slot of the chest there is put down
  module _ (new : ChestData) (slot : ℕ) (content : Option Stack) (change : Changes chests new index (refilled slot content (slots_of_chest chests index))) where
    kept : set codes index (get_or codes index 0) ≡ codes
    kept = set-get_or codes index 0

    pub refilled-held : IsSlot content → IsStored bounds codes new
    refilled-held small = rw (← kept) (stored-set bounds codes chests new index (get_or codes index 0) _ held near (held.codes index 0 near) change
        (refilled_beside _ slot content _ small (held.chests index)))

    pub refilled-stored : stored bounds sector codes new ≡ with_slot (stored bounds sector codes chests) p slot content
    unfolding with_block
    refilled-stored =
        let slots = refilled_slots slot content (slots_of_chest chests index) in
        let block : record { cell = cell_of (get_or codes index 0); slots = unwrap_or (refilled slot content (slots_of_chest chests index)) [] }
        ≡ with_content (block_at (stored bounds sector codes chests) p) slot content
        = (λ i. record { cell = cell_of (get_or codes index 0); slots = slots i }) ∙ ap (λ b. with_content b slot content) block-stored in
        let blocks = ap (λ cs. blocks_from 0 cs new) (sym kept) ∙ blocks-changed codes chests new index (get_or codes index 0) _ near change ∙ (λ i. set (blocks_from 0 codes chests) (at i) (block i)) in
        λ i. record { bounds = bounds; sector = sector; blocks = blocks i }

-- slots that are read as before
pub held-still : (bounds : Sizes) (codes : List ℕ) (chests new : ChestData) → SameSlots chests new → IsStored bounds codes chests → IsStored bounds codes new
held-still bounds codes chests new same held = record {
  whole = held.whole;
  codes = held.codes;
  chests = λ index. rw (same index) (held.chests index);
}

pub stored-still : (bounds : Sizes) (sector : ℕ) (codes : List ℕ) (chests new : ChestData) → SameSlots chests new → stored bounds sector codes new ≡ stored bounds sector codes chests
stored-still bounds sector codes chests new same =
    let blocks = same-blocks 0 codes new chests same in
    λ i. record { bounds = bounds; sector = sector; blocks = blocks i }

-- where there is no chest, none is taken away
pub left_out : (chests : ChestData) (k : ℕ) → slots_of_chest chests k ≡ None → Changes chests chests k None
left_out chests k none q = elim (cases_eq q k) [
  | inl same ↦ ap (slots_of_chest chests) same ∙ none ∙ sym (update_here (slots_of_chest chests) k None) ∙ ap (λ n. update nat_eq (slots_of_chest chests) k None n) (sym same)
  | inr apart ↦ sym (update_apart (slots_of_chest chests) k None q apart)
]

-- where no chest stands there are no slots, and where one does there are
module _ (bounds : Sizes) (codes : List ℕ) (chests : ChestData) (held : IsStored bounds codes chests) (index : ℕ) where
  pub no-slots : is_chest (cell_of (get_or codes index 0)) ≡ false → slots_of_chest chests index ≡ None
  no-slots none = by (slots_of_chest chests index) (held.chests index)
    where
      by : (o : Option Slots) → IsBeside (get_or codes index 0) o → o ≡ None
      by None beside = refl
      by (Some slots) beside = absurd (true≢false (sym beside.0 ∙ none))

  pub some-slots : is_chest (cell_of (get_or codes index 0)) ≡ true → IsSome (slots_of_chest chests index)
  some-slots chest = some_chest _ _ (held.chests index) chest

-- two sectors of one size and number with the same bytes are the same where their slots are
pub same-stored : (bounds rest : Sizes) (sector number : ℕ) (codes others : List ℕ) (chests more : ChestData) (r : Bool) → IsStored bounds codes chests → IsStored rest others more
    → bounds ≡ rest → sector ≡ number → codes ≡ others → Decides r ((index : ℕ) → slots_of_chest chests index ≡ slots_of_chest more index)
    → Decides r (stored bounds sector codes chests ≡ stored rest number others more)
same-stored bounds rest sector number codes others chests more r held holds sizes numbers bytes decides = (
  λ e.
      let blocks = same-blocks 0 codes chests more (decides.0 e) ∙ ap (λ cs. blocks_from 0 cs more) bytes in
      λ i. record { bounds = sizes i; sector = numbers i; blocks = blocks i },
  λ same. decides.1 (same-slots bounds rest codes others chests more held holds (ap (λ c. c.blocks) same)),
)

-- `!=` of two sizes says no where they are the same, and yes where not
pub same-sizes : (v w : Sizes) → false ≡ not (nat_eq v.sx w.sx && (nat_eq v.sz w.sz && (nat_eq v.s w.s && nat_eq v.h w.h))) → v ≡ w
unfolding same_sizes
same-sizes v w e = (sizes_decided v w).0 (by _ e)
  where
    by : (b : Bool) → false ≡ not b → b ≡ true
    by true e = refl
    by false e = cc

pub other-sizes : (v w : Sizes) → true ≡ not (nat_eq v.sx w.sx && (nat_eq v.sz w.sz && (nat_eq v.s w.s && nat_eq v.h w.h))) → v ≢ w
unfolding same_sizes
other-sizes v w e same = by _ e ((sizes_decided v w).1 same)
  where
    by : (b : Bool) → true ≡ not b → b ≢ true
    by true e h = cc
    by false e h = cc
