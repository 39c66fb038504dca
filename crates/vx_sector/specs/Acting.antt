use Rattle.std.specs.Prelude.{◌≡◌, ℕ, ◌+◌, ◌<◌, Bool, true, false, not, ◌||◌, nat_le, nat_lt, nat_eq, if◌then◌else◌, slice_index_or, List, [], ◌∷◌, Option, Some, None, Result, Ok, Err}
use Rattle.std.specs.List.{list_any}
use Rattle.std.specs.Option.{option_and_then}
use Rattle.vx_store.specs.declared.stack.TheConstants.{SLOTS}
use Rattle.vx_geom.specs.declared.pos.Pos.{Pos}
use Rattle.vx_flag.specs.declared.action.Action.{Action}
use Rattle.vx_flag.specs.declared.action.Action.TheVariants.{Placing, Breaking, Turning, Reaching}
use Rattle.vx_block.specs.declared.cell.Cell.{Cell}
use Rattle.vx_block.specs.declared.cell.Cell.TheVariants as cell
use Rattle.vx_block.specs.Part.{part_cell}
use Rattle.vx_store.specs.declared.stack.Stack.{Stack}
use Rattle.vx_store.specs.Codes.{is_chest}
use Rattle.vx_cells.specs.SectorCells.{SectorCells, IsSlot, most_count, block_at, cell_at, with_cell, with_slot}
use Rattle.vx_region.specs.Regions.{Regions}
use Rattle.vx_region.specs.Subjects.{Named}
use Rattle.vx_decide.specs.declared.rule.Rule.{Rule}
use Rattle.vx_decide.specs.declared.verdict.Verdict.{Verdict}
use Rattle.vx_decide.specs.declared.verdict.Verdict.TheVariants.{Permit, Deny}
use Rattle.vx_decide.specs.Verdict.{verdict}
use Rattle.vx_sector.specs.Commands.{place_of, action_of}
use Rattle.vx_sector.specs.SectorData.{SeatData}
use Rattle.vx_sector.specs.Slots.{count_in, is_filled, holds_other, with_more, with_fewer}
use Rattle.vx_sector.specs.declared.cmd.Cmd.{Cmd}
use Rattle.vx_sector.specs.declared.cmd.Cmd.TheVariants.{Look, Place, Break, Turn, OpenChest, Put, Take}
use Rattle.vx_sector.specs.declared.effect.Effect.{Effect}
use Rattle.vx_sector.specs.declared.effect.Effect.TheVariants.{Same, NewCell, NewSlot}
use Rattle.vx_sector.specs.declared.reply.Reply.{Reply}
use Rattle.vx_sector.specs.declared.reply.Reply.TheVariants.{Seen, Done, Opened}
use Rattle.vx_sector.specs.declared.refusal.Refusal.{Refusal}
use Rattle.vx_sector.specs.declared.refusal.Refusal.TheVariants.{Denied, Occupied, Nothing, NotLever, NotChest, NotEmpty, Extended, Unbreakable, NoSlot, OtherItem, BadCount}

-- a refusal, where its cause holds
abbrev pub refuse_if : Bool → Refusal → Option Refusal
refuse_if cause refusal = if cause then Some refusal else None

-- refused where the policy denies, by the rule that denies
abbrev pub refuse_denied : Verdict → Option Refusal
refuse_denied (Permit rule) = None
refuse_denied (Deny rule) = Some (Denied rule)

-- the rule by which the policy permits or denies
abbrev pub rule_of : Verdict → Rule
rule_of (Permit rule) = rule
rule_of (Deny rule) = rule

-- what the policy says to the player of the seat on the action at the place
abbrev pub judged : Regions → SeatData → Action → Pos → Verdict
judged regions seat action p = verdict regions (Named seat.name) action p

-- nothing is there
abbrev pub is_air : Cell → Bool
is_air cell.Air = true
is_air _ = false

-- what is there does not break
abbrev pub is_bedrock : Cell → Bool
is_bedrock cell.Bedrock = true
is_bedrock _ = false

-- a piston that is extended, or its head
abbrev pub is_extended : Cell → Bool
is_extended (cell.Piston facing sticky extended) = extended
is_extended (cell.Head facing sticky) = true
is_extended _ = false

-- a lever, on or off
abbrev pub is_lever : Cell → Bool
is_lever (cell.Lever facing on) = true
is_lever _ = false

-- a lever switched
abbrev pub turned : Cell → Cell
turned (cell.Lever facing on) = cell.Lever facing (not on)
turned other = other

-- the slots of the chest at a position; none where there is no chest
abbrev pub slots_at : SectorCells → Pos → List (Option Stack)
slots_at c p = (block_at c p).slots

-- one slot of the chest at a position
abbrev pub slot_at : SectorCells → Pos → ℕ → Option Stack
slot_at c p slot = slice_index_or (slots_at c p) slot None

-- what the policy has against a command: a denial, by its rule
abbrev pub denial : Regions → SeatData → Cmd → Option Refusal
denial regions seat cmd =
    option_and_then (λ action. refuse_denied (judged regions seat action (place_of cmd)))
    (action_of cmd)

-- what stands in the way of a command that is permitted, in the order in which it is looked for
abbrev pub hindrances : SectorCells → Cmd → List (Option Refusal)
hindrances c (Look p) = []
hindrances c (Place p part) = refuse_if (not (is_air (cell_at c p))) Occupied ∷ []
hindrances c (Break p) =
    refuse_if (is_air (cell_at c p)) Nothing
    ∷ refuse_if (is_extended (cell_at c p)) Extended
    ∷ refuse_if (is_bedrock (cell_at c p)) Unbreakable
    ∷ refuse_if (list_any is_filled (slots_at c p)) NotEmpty
    ∷ []
hindrances c (Turn p) = refuse_if (not (is_lever (cell_at c p))) NotLever ∷ []
hindrances c (OpenChest p) = refuse_if (not (is_chest (cell_at c p))) NotChest ∷ []
hindrances c (Put p slot item count) =
    refuse_if (not (is_chest (cell_at c p))) NotChest
    ∷ refuse_if (nat_le SLOTS slot) NoSlot
    ∷ refuse_if (holds_other item (slot_at c p slot)) OtherItem
    ∷ refuse_if (nat_eq count 0 || nat_lt most_count (count_in (slot_at c p slot) + count)) BadCount
    ∷ []
hindrances c (Take p slot count) =
    refuse_if (not (is_chest (cell_at c p))) NotChest
    ∷ refuse_if (nat_le SLOTS slot) NoSlot
    ∷ refuse_if (nat_eq count 0 || nat_lt (count_in (slot_at c p slot)) count) BadCount
    ∷ []

-- the first that is there
abbrev pub first_some : {X : Type 0} → List (Option X) → Option X
first_some [] = None
first_some (Some x ∷ os) = Some x
first_some (None ∷ os) = first_some os

-- a value, unless something stands against it
abbrev pub ok_unless : {X : Type 0} → Option Refusal → X → Result X Refusal
ok_unless (Some refusal) x = Err refusal
ok_unless None x = Ok x

-- the rule that permits the player of the seat the action at the place, or a denial
abbrev pub leave : Regions → SeatData → Action → Pos → Result Rule Refusal
leave regions seat action p =
    ok_unless (refuse_denied (judged regions seat action p))
    (rule_of (judged regions seat action p))

-- the first that stands in the way of a command that is permitted
abbrev pub hindrance : SectorCells → Cmd → Option Refusal
hindrance c cmd = first_some (hindrances c cmd)

-- the answer to a command that nothing stands against
abbrev pub reply_of : Regions → SectorCells → SeatData → Cmd → Reply
reply_of regions c seat (Look p) = Seen (cell_at c p)
reply_of regions c seat (Place p part) = Done (rule_of (judged regions seat Placing p))
reply_of regions c seat (Break p) = Done (rule_of (judged regions seat Breaking p))
reply_of regions c seat (Turn p) = Done (rule_of (judged regions seat Turning p))
reply_of regions c seat (OpenChest p) =
    Opened (rule_of (judged regions seat Reaching p)) (slots_at c p)
reply_of regions c seat (Put p slot item count) = Done (rule_of (judged regions seat Reaching p))
reply_of regions c seat (Take p slot count) = Done (rule_of (judged regions seat Reaching p))

-- the reply to a command that nothing stands against, by leave of a rule
abbrev pub reply_by : Rule → SectorCells → Cmd → Reply
reply_by rule c (Look p) = Seen (cell_at c p)
reply_by rule c (Place p part) = Done rule
reply_by rule c (Break p) = Done rule
reply_by rule c (Turn p) = Done rule
reply_by rule c (OpenChest p) = Opened rule (slots_at c p)
reply_by rule c (Put p slot item count) = Done rule
reply_by rule c (Take p slot count) = Done rule

-- what a command does where nothing stands against it
abbrev pub effect_of : SectorCells → Cmd → Effect
effect_of c (Look p) = Same
effect_of c (Place p part) = NewCell (part_cell part)
effect_of c (Break p) = NewCell cell.Air
effect_of c (Turn p) = NewCell (turned (cell_at c p))
effect_of c (OpenChest p) = Same
effect_of c (Put p slot item count) = NewSlot slot (with_more item count (slot_at c p slot))
effect_of c (Take p slot count) = NewSlot slot (with_fewer count (slot_at c p slot))

-- what a command that is permitted does, or what stands in its way
abbrev pub permitted_effect : SectorCells → Cmd → Result Effect Refusal
permitted_effect c cmd = ok_unless (hindrance c cmd) (effect_of c cmd)

-- what is done fits what stands at the position: a slot is one of a chest there, and may hold what
-- it is to hold
abbrev pub Fits : SectorCells → Pos → Effect → Type 0
Fits c p (NewSlot slot content) = (is_chest (cell_at c p) ≡ true) × (slot < SLOTS) × IsSlot content
Fits c p _ = Unit {0}

-- the answer that the rules give to a command of a seat: a denial first, then what stands in its
-- way
unfoldable pub rules_answer : Regions → SectorCells → SeatData → Cmd → Result Reply Refusal
rules_answer regions c seat cmd =
    ok_unless (first_some (denial regions seat cmd ∷ hindrances c cmd))
    (reply_of regions c seat cmd)

-- the cells after something was done at a position
abbrev pub applied : SectorCells → Pos → Effect → SectorCells
applied c p Same = c
applied c p (NewCell new) = with_cell c p new
applied c p (NewSlot slot content) = with_slot c p slot content

-- an answered command has its effect, a refused one none
abbrev pub effect_by : SectorCells → Cmd → Result Reply Refusal → Effect
effect_by c cmd (Ok reply) = effect_of c cmd
effect_by c cmd (Err refusal) = Same

-- the cells after a command and its answer
abbrev pub cells_by : SectorCells → Cmd → Result Reply Refusal → SectorCells
cells_by c cmd answer = applied c (place_of cmd) (effect_by c cmd answer)
