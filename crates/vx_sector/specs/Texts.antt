use Rattle.std.specs.Prelude.{ℕ, ◌+◌, List, [], ◌∷◌, ◌++◌, codes, decimal, if◌then◌else◌, Option, Some, None}
use Rattle.std.specs.List.{list_any}
use Rattle.vx_block.specs.Cell.{cell_text}
use Rattle.vx_store.specs.declared.stack.Stack.{Stack}
use Rattle.vx_decide.specs.Texts.{rule_text}
use Rattle.vx_sector.specs.Slots.{is_filled}
use Rattle.vx_sector.specs.declared.reply.Reply.{Reply}
use Rattle.vx_sector.specs.declared.reply.Reply.TheVariants.{Seen, Done, Opened}
use Rattle.vx_sector.specs.declared.refusal.Refusal.{Refusal}
use Rattle.vx_sector.specs.declared.refusal.Refusal.TheVariants as refusal

-- a slot as it is written, by its number, the item and how many of it; an empty one is not
abbrev pub slot_text : ℕ → Option Stack → List ℕ
slot_text number None = []
slot_text number (Some stack) =
    codes " " ++ decimal number ++ codes "=" ++ decimal stack.item
    ++ codes "x" ++ decimal stack.count

-- slots as they are written, one after another, the first of which has this number
abbrev pub slots_text : ℕ → List (Option Stack) → List ℕ
slots_text number [] = []
slots_text number (slot ∷ slots) = slot_text number slot ++ slots_text (number + 1) slots

-- what a chest holds as it is written
abbrev pub contents_text : List (Option Stack) → List ℕ
contents_text slots = if list_any is_filled slots then slots_text 0 slots else codes " nothing"

-- a reply as it is written
abbrev pub reply_text : Reply → List ℕ
reply_text (Seen cell) = codes "seen " ++ cell_text cell
reply_text (Done rule) = codes "ok " ++ rule_text rule
reply_text (Opened rule slots) =
    codes "ok " ++ rule_text rule ++ codes " holds" ++ contents_text slots

-- a refusal as it is written: its number and its words; a denial's words are the rule that denies
abbrev pub refusal_text : Refusal → List ℕ
refusal_text refusal.OutOfWorld = codes "refused 1 out of world"
refusal_text refusal.HistoryFull = codes "refused 13 history"
refusal_text (refusal.Denied rule) = codes "refused 2 " ++ rule_text rule
refusal_text refusal.Occupied = codes "refused 3 occupied"
refusal_text refusal.Nothing = codes "refused 4 nothing"
refusal_text refusal.NotLever = codes "refused 5 not lever"
refusal_text refusal.NotChest = codes "refused 6 not chest"
refusal_text refusal.NotEmpty = codes "refused 7 not empty"
refusal_text refusal.Extended = codes "refused 8 extended"
refusal_text refusal.Unbreakable = codes "refused 9 unbreakable"
refusal_text refusal.NoSlot = codes "refused 10 no slot"
refusal_text refusal.OtherItem = codes "refused 11 other item"
refusal_text refusal.BadCount = codes "refused 12 bad count"
refusal_text refusal.NoMemory = codes "refused 14 memory"
