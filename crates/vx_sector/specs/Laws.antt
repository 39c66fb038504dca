use Rattle.std.specs.Prelude.{◌≡◌, ◌≢◌, ◌↔◌, ℕ, Bool, true, false, not, Option, Some, List, Result, Ok, Err}
use Rattle.vx_geom.specs.declared.dir.Dir.{Dir}
use Rattle.vx_geom.specs.declared.pos.Pos.{Pos}
use Rattle.vx_geom.specs.Sizes.{AreSizes}
use Rattle.vx_block.specs.declared.cell.Cell.{Cell}
use Rattle.vx_block.specs.declared.cell.Cell.TheVariants.{Chest, Lever}
use Rattle.vx_store.specs.declared.stack.Stack.{Stack}
use Rattle.vx_cells.specs.SectorCells.{SectorCells, IsWhole, holds, block_at, cell_at}
use Rattle.vx_flag.specs.declared.action.Action.{Action}
use Rattle.vx_flag.specs.declared.action.Action.TheVariants.{Reaching}
use Rattle.vx_region.specs.Regions.{Regions}
use Rattle.vx_decide.specs.declared.rule.Rule.{Rule}
use Rattle.vx_decide.specs.declared.verdict.Verdict.TheVariants.{Permit, Deny}
use Rattle.vx_sector.specs.SectorData.{SectorData, SeatData}
use Rattle.vx_sector.specs.Commands.{place_of, action_of}
use Rattle.vx_sector.specs.Acting.{judged, is_extended, slots_at, slot_at, rules_answer, cells_by}
use Rattle.vx_sector.specs.Slots.{HoldsMore}
use Rattle.vx_sector.specs.Windows.{answer_of, sector_after}
use Rattle.vx_sector.specs.declared.cmd.Cmd.{Cmd}
use Rattle.vx_sector.specs.declared.cmd.Cmd.TheVariants.{Look, Turn, OpenChest, Put, Take}
use Rattle.vx_sector.specs.declared.reply.Reply.{Reply}
use Rattle.vx_sector.specs.declared.reply.Reply.TheVariants.{Opened}
use Rattle.vx_sector.specs.declared.refusal.Refusal.{Refusal}
use Rattle.vx_sector.specs.declared.refusal.Refusal.TheVariants.{OutOfWorld, Denied}

-- a command changes nothing but at the position that it speaks of, neither cells nor slots
abbrev pub OnePlaceChanges : Type 0
OnePlaceChanges = (s : SectorData) (seat : SeatData) (cmd : Cmd) (answer : Result Reply Refusal)
    (q : Pos) → AreSizes s.cells.bounds
    → holds s.cells (place_of cmd) ≡ true → holds s.cells q ≡ true → q ≢ place_of cmd
    → block_at (sector_after s seat cmd answer).cells q ≡ block_at s.cells q

-- a refusal leaves the cells and their slots
abbrev pub RefusalLeavesCells : Type 0
RefusalLeavesCells = (s : SectorData) (seat : SeatData) (cmd : Cmd) (refusal : Refusal)
    → (sector_after s seat cmd (Err refusal)).cells ≡ s.cells

-- a command is out of the world exactly where its position is not of the sector
abbrev pub OutsideIsRefused : Type 0
OutsideIsRefused = (s : SectorData) (seat : SeatData) (cmd : Cmd)
    → (answer_of s seat cmd ≡ Err OutOfWorld) ↔ (holds s.cells (place_of cmd) ≡ false)

-- a command is denied exactly where the policy denies the action that it asks leave for, and by
-- that rule
abbrev pub DeniedByThePolicy : Type 0
DeniedByThePolicy = (regions : Regions) (c : SectorCells) (seat : SeatData) (cmd : Cmd)
    (rule : Rule)
    → (rules_answer regions c seat cmd ≡ Err (Denied rule))
    ↔ ((action : Action) × (action_of cmd ≡ Some action)
    × (judged regions seat action (place_of cmd) ≡ Deny rule))

-- slots are shown only by leave to reach into the chest, and as they are
abbrev pub ShownByLeave : Type 0
ShownByLeave = (regions : Regions) (c : SectorCells) (seat : SeatData) (cmd : Cmd)
    (rule : Rule) (slots : List (Option Stack))
    → rules_answer regions c seat cmd ≡ Ok (Opened rule slots)
    → (judged regions seat Reaching (place_of cmd) ≡ Permit rule)
    × (slots ≡ slots_at c (place_of cmd))

-- looking changes no cell and no slot, whatever is answered
abbrev pub LookingChangesNothing : Type 0
LookingChangesNothing = (s : SectorData) (seat : SeatData) (p : Pos) (answer : Result Reply Refusal)
    → (sector_after s seat (Look p) answer).cells ≡ s.cells

-- nor does opening a chest
abbrev pub OpeningChangesNothing : Type 0
OpeningChangesNothing = (s : SectorData) (seat : SeatData) (p : Pos) (answer : Result Reply Refusal)
    → (sector_after s seat (OpenChest p) answer).cells ≡ s.cells

-- the rules answer a command at a position of a sector of the world with a reply
pub record IsAnswered (regions : Regions) (c : SectorCells) (seat : SeatData) (cmd : Cmd)
    (reply : Reply) : Type 0 where
  pub sizes : AreSizes c.bounds
  pub whole : IsWhole c
  pub held : holds c (place_of cmd) ≡ true
  pub answer : rules_answer regions c seat cmd ≡ Ok reply

-- at the position a chest was and is, and in every slot but one there is what there was
pub record OtherSlotsStay (before after : SectorCells) (p : Pos) (slot : ℕ) : Type 0 where
  pub was : cell_at before p ≡ Chest
  pub is : cell_at after p ≡ Chest
  pub others : (k : ℕ) → k ≢ slot → slot_at after p k ≡ slot_at before p k

-- a put adds so many of the item to its slot, and leaves the other slots
abbrev pub PuttingAddsSoMany : Type 0
PuttingAddsSoMany = (regions : Regions) (before : SectorCells) (seat : SeatData) (p : Pos)
    (slot item count : ℕ) (reply : Reply)
    → IsAnswered regions before seat (Put p slot item count) reply
    → let after = cells_by before (Put p slot item count) (Ok reply) in
    HoldsMore item count (slot_at before p slot) (slot_at after p slot)
    × OtherSlotsStay before after p slot

-- a take leaves so many fewer of the item that was there in its slot, and leaves the other slots
abbrev pub TakingLeavesSoManyFewer : Type 0
TakingLeavesSoManyFewer = (regions : Regions) (before : SectorCells) (seat : SeatData) (p : Pos)
    (slot count : ℕ) (reply : Reply)
    → IsAnswered regions before seat (Take p slot count) reply
    → let after = cells_by before (Take p slot count) (Ok reply) in
    ((item : ℕ) × HoldsMore item count (slot_at after p slot) (slot_at before p slot))
    × OtherSlotsStay before after p slot

-- turning a lever that is on leaves it off, and the other way round, with the facing that it has
abbrev pub TurningKeepsTheFacing : Type 0
TurningKeepsTheFacing = (regions : Regions) (before : SectorCells) (seat : SeatData) (p : Pos)
    (reply : Reply)
    → IsAnswered regions before seat (Turn p) reply
    → let after = cells_by before (Turn p) (Ok reply) in
    (facing : Dir) × (on : Bool)
    × (cell_at before p ≡ Lever facing on) × (cell_at after p ≡ Lever facing (not on))

-- the cells of a sector after a command and the answer that it gets
abbrev pub cells_left : SectorData → SeatData → Cmd → SectorCells
cells_left s seat cmd = (sector_after s seat cmd (answer_of s seat cmd)).cells

-- a command leaves a whole sector whole, with the number and of the world that it was
abbrev pub StaysWhole : Type 0
StaysWhole = (s : SectorData) (seat : SeatData) (cmd : Cmd)
    → IsWhole s.cells → let after = cells_left s seat cmd in
    IsWhole after × (after.bounds ≡ s.cells.bounds) × (after.sector ≡ s.cells.sector)

-- an extended piston or a head stays as it is, and where there was none there is none
abbrev pub IsLeftExtended : Cell → Cell → Type 0
IsLeftExtended before after =
    (is_extended before ≡ true → after ≡ before) × (is_extended after ≡ true → after ≡ before)

-- so a command leaves each position of its sector
abbrev pub LeavesExtended : Type 0
LeavesExtended = (s : SectorData) (seat : SeatData) (cmd : Cmd) (q : Pos)
    → AreSizes s.cells.bounds → IsWhole s.cells → holds s.cells q ≡ true
    → IsLeftExtended (cell_at s.cells q) (cell_at (cells_left s seat cmd) q)
