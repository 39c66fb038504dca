-- What is told of a world is plain text.
use Rattle.std.proofs.Common.{◌≡◌, ℕ, ◌+◌, ◌<◌, ◌≤◌, Bool, true, false, ◌||◌, cond, nat_eq, nat_le, List, [], ◌∷◌, Option, Some, None, refl, codes, rules, arith, inl, inr}
use Rattle.std.specs.List.{list_all, list_any}
use Rattle.std.proofs.lemmas.Bool.{and_parts, leb-true, eqb-true, cases_lt, lt-ltb, le-ltb}
use Rattle.vx_base.specs.Digits.{small_word}
use Rattle.vx_block.specs.Cut.{joined}
use Rattle.vx_block.specs.Cell.{cell_text, IsCell}
use Rattle.vx_block.specs.Part.{part_text}
use Rattle.vx_block.specs.Repeating.{Repeating, IsRepeating, repeater_words}
use Rattle.vx_block.specs.States.{side_dir, mount_dir, ticks_of, dir_word, on_word, out_word, grip_word, lamp_words}
use Rattle.vx_block.specs.declared.cell.Cell.{Cell}
use Rattle.vx_block.specs.declared.cell.Cell.TheVariants as cell
use Rattle.vx_block.specs.declared.part.Part.{Part}
use Rattle.vx_block.specs.declared.delay.Delay.{Delay}
use Rattle.vx_block.specs.declared.delay.Delay.TheVariants as delay
use Rattle.vx_block.specs.declared.lamp.Lamp.{Lamp}
use Rattle.vx_store.specs.declared.stack.Stack.{Stack}
use Rattle.vx_decide.specs.Texts.{rule_text}
use Rattle.vx_decide.specs.declared.rule.Rule.{Rule}
use Rattle.vx_decide.specs.declared.rule.Rule.TheVariants as rule
use Rattle.vx_flag.specs.Flag.{flag_text}
use Rattle.vx_flag.specs.declared.flag.Flag.{Flag}
use Rattle.vx_geom.specs.declared.dir.Dir.{Dir}
use Rattle.vx_geom.specs.declared.pos.Pos.{Pos}
use Rattle.vx_name.specs.Words.{is_amid, is_name_byte, IsName}
use Rattle.vx_sector.specs.Slots.{is_filled}
use Rattle.vx_sector.specs.Texts.{slot_text, slots_text, contents_text, reply_text, refusal_text}
use Rattle.vx_sector.specs.declared.cmd.Cmd.{Cmd}
use Rattle.vx_sector.specs.declared.cmd.Cmd.TheVariants.{Look, Place, Break, Turn, OpenChest, Put, Take}
use Rattle.vx_sector.specs.declared.reply.Reply.TheVariants.{Seen, Done, Opened}
use Rattle.vx_sector.specs.declared.refusal.Refusal.{Refusal}
use Rattle.vx_sector.specs.declared.refusal.Refusal.TheVariants as refusal
use Rattle.vx_tick.specs.declared.fate.Fate.{Fate}
use Rattle.vx_tick.specs.declared.fate.Fate.TheVariants.{Moved, Denied, Beaten}
use Rattle.vx_json.specs.Commands.{cmd_text}
use Rattle.vx_json.specs.Plain.{is_plain, IsPlain}
use Rattle.vx_json.specs.Texts.{pos_text, fate_text}
use Rattle.vx_json.proofs.Plainness.{plain, both, number, signed_number, plain_byte}

-- a position
pub pos_plain : (p : Pos) → IsPlain (pos_text p)
pos_plain p = both (both (both (both (signed_number p.x) (plain (codes " ") refl)) (signed_number p.y)) (plain (codes " ") refl)) (signed_number p.z)

-- a part
pub part_plain : (part : Part) → list_all is_plain (part_text part) ≡ true
part_plain part = search rules

-- a command
pub cmd_plain : (cmd : Cmd) → IsPlain (cmd_text cmd)
cmd_plain (Look p) = both (plain (codes "look ") refl) (pos_plain p)
cmd_plain (Place p part) = both (both (both (plain (codes "place ") refl) (pos_plain p)) (plain (codes " ") refl)) (plain (part_text part) (part_plain part))
cmd_plain (Break p) = both (plain (codes "break ") refl) (pos_plain p)
cmd_plain (Turn p) = both (plain (codes "turn ") refl) (pos_plain p)
cmd_plain (OpenChest p) = both (plain (codes "open ") refl) (pos_plain p)
cmd_plain (Put p slot item count) =
    both (both (both (both (both (both (both (plain (codes "put ") refl) (pos_plain p)) (plain (codes " ") refl)) (number slot)) (plain (codes " ") refl)) (number item)) (plain (codes " ") refl)) (number count)
cmd_plain (Take p slot count) =
    both (both (both (both (both (plain (codes "take ") refl) (pos_plain p)) (plain (codes " ") refl)) (number slot)) (plain (codes " ") refl)) (number count)

-- a flag
flag_plain : (flag : Flag) → list_all is_plain (flag_text flag) ≡ true
flag_plain flag = search rules

-- a rule
pub rule_plain : (r : Rule) → IsPlain (rule_text r)
rule_plain (rule.Flag flag at from) =
    both (both (both (both (both (plain (codes "flag ") refl) (plain (flag_text flag) (flag_plain flag))) (plain (codes " at ") refl)) (number at.0)) (plain (codes " from ") refl)) (number from.0)
rule_plain (rule.Build at from) = both (both (both (plain (codes "build at ") refl) (number at.0)) (plain (codes " from ") refl)) (number from.0)
rule_plain (rule.Member at) = both (plain (codes "member at ") refl) (number at.0)
rule_plain rule.Default = plain (codes "default") refl

-- a fate
pub fate_plain : (p : Pos) (fate : Fate) → IsPlain (fate_text p fate)
fate_plain p Moved = both (plain (codes "moved ") refl) (pos_plain p)
fate_plain p (Denied cell rule) =
    both (both (both (both (both (plain (codes "denied ") refl) (pos_plain p)) (plain (codes " at ") refl)) (pos_plain cell)) (plain (codes " ") refl)) (rule_plain rule)
fate_plain p (Beaten by) = both (both (both (plain (codes "beaten ") refl) (pos_plain p)) (plain (codes " by ") refl)) (pos_plain by)

-- a refusal
pub refusal_plain : (r : Refusal) → IsPlain (refusal_text r)
refusal_plain refusal.OutOfWorld = record { each = refl }
refusal_plain refusal.HistoryFull = record { each = refl }
refusal_plain (refusal.Denied rule) = both (plain (codes "refused 2 ") refl) (rule_plain rule)
refusal_plain refusal.Occupied = record { each = refl }
refusal_plain refusal.Nothing = record { each = refl }
refusal_plain refusal.NotLever = record { each = refl }
refusal_plain refusal.NotChest = record { each = refl }
refusal_plain refusal.NotEmpty = record { each = refl }
refusal_plain refusal.Extended = record { each = refl }
refusal_plain refusal.Unbreakable = record { each = refl }
refusal_plain refusal.NoSlot = record { each = refl }
refusal_plain refusal.OtherItem = record { each = refl }
refusal_plain refusal.BadCount = record { each = refl }
refusal_plain refusal.NoMemory = record { each = refl }

-- what a chest holds
slot_plain : (n : ℕ) (slot : Option Stack) → IsPlain (slot_text n slot)
slot_plain n None = plain [] refl
slot_plain n (Some stack) = both (both (both (both (both (plain (codes " ") refl) (number n)) (plain (codes "=") refl)) (number stack.item)) (plain (codes "x") refl)) (number stack.count)

slots_plain : (n : ℕ) (slots : List (Option Stack)) → IsPlain (slots_text n slots)
slots_plain n [] = plain [] refl
slots_plain n (slot ∷ slots) = both (slot_plain n slot) (slots_plain (n + 1) slots)

contents_plain : (slots : List (Option Stack)) → IsPlain (contents_text slots)
contents_plain slots = by (list_any is_filled slots)
  where
    by : (some : Bool) → IsPlain (cond some (slots_text 0 slots) (codes " nothing"))
    by true = slots_plain 0 slots
    by false = plain (codes " nothing") refl

-- words joined by colons
joined_plain : (word : List ℕ) (words : List (List ℕ)) → list_all is_plain word ≡ true → list_all (list_all is_plain) words ≡ true → IsPlain (joined word words)
joined_plain word [] first others = plain word first
joined_plain word (next ∷ words) first others =
    let parts = and_parts (list_all is_plain next) (list_all (list_all is_plain) words) others in
    both (plain word first) (both (plain (58 ∷ []) refl) (joined_plain next words parts.0 parts.1))

-- a small number
small_plain : (n : ℕ) → n < 20 → list_all is_plain (small_word n) ≡ true
small_plain n small = elim (cases_lt n 10) [
  | inl one ↦ rw (lt-ltb n 10 one, plain_byte (48 + n) (omega arith) (omega arith) (λ e. omega arith) (λ e. omega arith)) refl
  | inr two ↦ rw (le-ltb n 10 two, plain_byte (38 + n) (omega arith) (omega arith) (λ e. omega arith) (λ e. omega arith)) refl
]

-- the words of a state
dir_plain : (d : Dir) → list_all is_plain (dir_word d) ≡ true
dir_plain d = search rules

on_plain : (on : Bool) → list_all is_plain (on_word on) ≡ true
on_plain on = search rules

out_plain : (out : Bool) → list_all is_plain (out_word out) ≡ true
out_plain out = search rules

grip_plain : (sticky : Bool) → list_all is_plain (grip_word sticky) ≡ true
grip_plain sticky = search rules

lamp_plain : (lamp : Lamp) → list_all (list_all is_plain) (lamp_words lamp) ≡ true
lamp_plain lamp = search rules

delay_plain : (d : Delay) → list_all is_plain (small_word (ticks_of d)) ≡ true
delay_plain d = search rules

delay_small : (d : Delay) → ticks_of d ≤ 4
delay_small delay.One = omega arith
delay_small delay.Two = omega arith
delay_small delay.Three = omega arith
delay_small delay.Four = omega arith

repeater_plain : (r : Repeating) → IsRepeating r → list_all (list_all is_plain) (repeater_words r) ≡ true
repeater_plain r is =
    let most = delay_small r.delay in
    rw (dir_plain (side_dir r.facing), delay_plain r.delay, on_plain r.on, small_plain r.wait (omega arith)) refl

-- a cell
pub cell_plain : (c : Cell) → IsCell c → IsPlain (cell_text c)
cell_plain cell.Air is = record { each = refl }
cell_plain cell.Stone is = record { each = refl }
cell_plain cell.Dirt is = record { each = refl }
cell_plain cell.Planks is = record { each = refl }
cell_plain cell.Glass is = record { each = refl }
cell_plain cell.Obsidian is = record { each = refl }
cell_plain cell.Bedrock is = record { each = refl }
cell_plain cell.Chest is = record { each = refl }
cell_plain (cell.Dust level) is = joined_plain (codes "dust") (small_word level ∷ []) refl (rw (small_plain level (omega arith)) refl)
cell_plain (cell.Torch facing lit) is =
    joined_plain (codes "torch") (dir_word (mount_dir facing) ∷ on_word lit ∷ []) refl (rw (dir_plain (mount_dir facing), on_plain lit) refl)
cell_plain (cell.Lever facing on) is = joined_plain (codes "lever") (dir_word facing ∷ on_word on ∷ []) refl (rw (dir_plain facing, on_plain on) refl)
cell_plain (cell.Repeater r) is = joined_plain (codes "repeater") (repeater_words r) refl (repeater_plain r is)
cell_plain (cell.Lamp lamp) is = joined_plain (codes "lamp") (lamp_words lamp) refl (lamp_plain lamp)
cell_plain (cell.Piston facing true extended) is =
    joined_plain (codes "sticky") (dir_word facing ∷ out_word extended ∷ []) refl (rw (dir_plain facing, out_plain extended) refl)
cell_plain (cell.Piston facing false extended) is =
    joined_plain (codes "piston") (dir_word facing ∷ out_word extended ∷ []) refl (rw (dir_plain facing, out_plain extended) refl)
cell_plain (cell.Head facing sticky) is =
    joined_plain (codes "head") (dir_word facing ∷ grip_word sticky ∷ []) refl (rw (dir_plain facing, grip_plain sticky) refl)

-- a reply
pub seen_plain : (c : Cell) → IsCell c → IsPlain (reply_text (Seen c))
seen_plain c is = both (plain (codes "seen ") refl) (cell_plain c is)

pub done_plain : (rule : Rule) → IsPlain (reply_text (Done rule))
done_plain rule = both (plain (codes "ok ") refl) (rule_plain rule)

pub opened_plain : (rule : Rule) (slots : List (Option Stack)) → IsPlain (reply_text (Opened rule slots))
opened_plain rule slots = both (both (both (plain (codes "ok ") refl) (rule_plain rule)) (plain (codes " holds") refl)) (contents_plain slots)

-- a name
between : (low b high : ℕ) → is_amid low b high ≡ true → (low ≤ b) × (b ≤ high)
between low b high is = let parts = and_parts (nat_le low b) (nat_le b high) is in (leb-true low b parts.0, leb-true b high parts.1)

pub name_byte : (b : ℕ) → is_name_byte b ≡ true → is_plain b ≡ true
unfolding is_name_byte
name_byte b is = by (is_amid 97 b 122) (is_amid 65 b 90) (is_amid 48 b 57) (nat_eq b 95) refl refl refl refl is
  where
    by : (small capital digit line : Bool) → is_amid 97 b 122 ≡ small → is_amid 65 b 90 ≡ capital → is_amid 48 b 57 ≡ digit → nat_eq b 95 ≡ line
        → ((small || capital) || (digit || line)) ≡ true → is_plain b ≡ true
    by true capital digit line s c d l is = let h = between 97 b 122 s in plain_byte b (omega arith) (omega arith) (λ e. omega arith) (λ e. omega arith)
    by false true digit line s c d l is = let h = between 65 b 90 c in plain_byte b (omega arith) (omega arith) (λ e. omega arith) (λ e. omega arith)
    by false false true line s c d l is = let h = between 48 b 57 d in plain_byte b (omega arith) (omega arith) (λ e. omega arith) (λ e. omega arith)
    by false false false true s c d l is = let h = eqb-true b 95 l in plain_byte b (omega arith) (omega arith) (λ e. omega arith) (λ e. omega arith)
    by false false false false s c d l is = cc

name_bytes : (bs : List ℕ) → list_all is_name_byte bs ≡ true → list_all is_plain bs ≡ true
name_bytes [] each = refl
name_bytes (b ∷ bs) each =
    let parts = and_parts (is_name_byte b) (list_all is_name_byte bs) each in
    rw (name_byte b parts.0) (name_bytes bs parts.1)

pub name_plain : (name : List ℕ) → IsName name → IsPlain name
name_plain name is = plain name (name_bytes name is.passed)
