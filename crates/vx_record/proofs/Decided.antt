-- The derived `==` of commands and answers says yes exactly where they are one.
use Rattle.std.proofs.Common.{◌≡◌, ℕ, Bool, false, true≢false, Result, Ok, Err, refl, sym, ap, ◌∙◌, rules}
use Rattle.std.specs.Prelude.{nat_eq}
use Rattle.std.specs.Bool.{Decides}
use Rattle.std.specs.Cmp.{booleans_Decides}
use Rattle.std.specs.Result.{result_eq}
use Rattle.std.proofs.lemmas.Bool.Decides.{Decides-eqb, Decides-and, Decides-like}
use Rattle.vx_geom.specs.contracts.dir.DirPartialEq.TheImpl as dir
use Rattle.vx_geom.specs.contracts.pos.PosPartialEq.TheImpl as pos
use Rattle.vx_geom.specs.declared.dir.Dir.{Dir}
use Rattle.vx_geom.specs.declared.pos.Pos.{Pos}
use Rattle.vx_block.specs.contracts.cell.CellPartialEq.TheImpl as cell
use Rattle.vx_block.specs.contracts.lamp.LampPartialEq.TheImpl as lamp
use Rattle.vx_block.specs.contracts.level.LevelPartialEq.TheImpl as level
use Rattle.vx_block.specs.contracts.mount.MountPartialEq.TheImpl as mount
use Rattle.vx_block.specs.contracts.part.PartPartialEq.TheImpl as part
use Rattle.vx_block.specs.contracts.repeater.RepeaterPartialEq.TheImpl as repeater
use Rattle.vx_block.specs.declared.cell.Cell.{Cell}
use Rattle.vx_block.specs.declared.cell.Cell.TheVariants as kind
use Rattle.vx_block.specs.declared.lamp.Lamp.{Lamp}
use Rattle.vx_block.specs.declared.level.Level.{Level}
use Rattle.vx_block.specs.declared.mount.Mount.{Mount}
use Rattle.vx_block.specs.declared.part.Part.{Part}
use Rattle.vx_block.specs.declared.repeater.Repeater.{Repeater}
use Rattle.vx_store.specs.SameSlots.{slots_decided}
use Rattle.vx_decide.specs.contracts.rule.RulePartialEq.TheImpl as rule
use Rattle.vx_decide.specs.declared.rule.Rule.{Rule}
use Rattle.vx_sector.specs.contracts.cmd.CmdPartialEq.TheImpl as cmd
use Rattle.vx_sector.specs.contracts.refusal.RefusalPartialEq.TheImpl as refusal
use Rattle.vx_sector.specs.contracts.reply.ReplyPartialEq.TheImpl as reply
use Rattle.vx_sector.specs.declared.cmd.Cmd.{Cmd}
use Rattle.vx_sector.specs.declared.cmd.Cmd.TheVariants.{Look, Place, Break, Turn, OpenChest, Put, Take}
use Rattle.vx_sector.specs.declared.refusal.Refusal.{Refusal}
use Rattle.vx_sector.specs.declared.reply.Reply.{Reply}
use Rattle.vx_sector.specs.declared.reply.Reply.TheVariants.{Seen, Done, Opened}

-- values of different codes are not one, where the test says no: much less to check than `cc` for each two variants
apart : {X : Type 0} (code : X → ℕ) (same : Bool) (a b : X) → same ≡ false
    → nat_eq (code a) (code b) ≡ false → Decides same (a ≡ b)
apart code same a b unlike differ = (
  λ yes. absurd (true≢false (sym yes ∙ unlike)),
  λ one. absurd (true≢false (sym ((Decides-eqb (code a) (code b)).1 (ap code one)) ∙ differ)),
)

abbrev cell_code : Cell → ℕ
cell_code kind.Air = 0
cell_code kind.Stone = 1
cell_code kind.Dirt = 2
cell_code kind.Planks = 3
cell_code kind.Glass = 4
cell_code kind.Obsidian = 5
cell_code kind.Bedrock = 6
cell_code kind.Chest = 7
cell_code (kind.Dust a) = 8
cell_code (kind.Torch f a) = 9
cell_code (kind.Lever f a) = 10
cell_code (kind.Repeater a) = 11
cell_code (kind.Lamp a) = 12
cell_code (kind.Piston f s a) = 13
cell_code (kind.Head f s) = 14

abbrev cmd_code : Cmd → ℕ
cmd_code (Look p) = 0
cmd_code (Place p x) = 1
cmd_code (Break p) = 2
cmd_code (Turn p) = 3
cmd_code (OpenChest p) = 4
cmd_code (Put p s x n) = 5
cmd_code (Take p s n) = 6

abbrev reply_code : Reply → ℕ
reply_code (Seen x) = 0
reply_code (Done r) = 1
reply_code (Opened r xs) = 2

pos_decided : (a b : Pos) → Decides (pos.eq-value.it a b) (a ≡ b)
pos_decided a b = search rules

dir_decided : (a b : Dir) → Decides (dir.eq-value.it a b) (a ≡ b)
dir_decided a b = search rules

mount_decided : (a b : Mount) → Decides (mount.eq-value.it a b) (a ≡ b)
mount_decided a b = search rules

lamp_decided : (a b : Lamp) → Decides (lamp.eq-value.it a b) (a ≡ b)
lamp_decided a b = search rules

level_decided : (a b : Level) → Decides (level.eq-value.it a b) (a ≡ b)
level_decided a b = search rules

repeater_decided : (a b : Repeater) → Decides (repeater.eq-value.it a b) (a ≡ b)
repeater_decided a b = search rules

part_decided : (a b : Part) → Decides (part.eq-value.it a b) (a ≡ b)
part_decided a b = search rules

rule_decided : (a b : Rule) → Decides (rule.eq-value.it a b) (a ≡ b)
rule_decided a b = search rules

cell_decided : (a b : Cell) → Decides (cell.eq-value.it a b) (a ≡ b)
cell_decided kind.Air kind.Air = (λ e. refl, λ e. refl)
cell_decided kind.Stone kind.Stone = (λ e. refl, λ e. refl)
cell_decided kind.Dirt kind.Dirt = (λ e. refl, λ e. refl)
cell_decided kind.Planks kind.Planks = (λ e. refl, λ e. refl)
cell_decided kind.Glass kind.Glass = (λ e. refl, λ e. refl)
cell_decided kind.Obsidian kind.Obsidian = (λ e. refl, λ e. refl)
cell_decided kind.Bedrock kind.Bedrock = (λ e. refl, λ e. refl)
cell_decided kind.Chest kind.Chest = (λ e. refl, λ e. refl)
cell_decided (kind.Dust a) (kind.Dust b) = Decides-like _ (ap kind.Dust) (λ e. cc) (level_decided a b)
cell_decided (kind.Torch f a) (kind.Torch g b) =
    Decides-like _ (λ e i. kind.Torch (e.0 i) (e.1 i)) (λ e. ((cc), (cc)))
    (Decides-and _ _ (mount_decided f g) (booleans_Decides a b))
cell_decided (kind.Lever f a) (kind.Lever g b) =
    Decides-like _ (λ e i. kind.Lever (e.0 i) (e.1 i)) (λ e. ((cc), (cc)))
    (Decides-and _ _ (dir_decided f g) (booleans_Decides a b))
cell_decided (kind.Repeater a) (kind.Repeater b) =
    Decides-like _ (ap kind.Repeater) (λ e. cc) (repeater_decided a b)
cell_decided (kind.Lamp a) (kind.Lamp b) = Decides-like _ (ap kind.Lamp) (λ e. cc) (lamp_decided a b)
cell_decided (kind.Piston f s a) (kind.Piston g t b) =
    Decides-like _ (λ e i. kind.Piston (e.0 i) (e.1.0 i) (e.1.1 i)) (λ e. ((cc), ((cc), (cc))))
    (Decides-and _ _ (dir_decided f g)
    (Decides-and _ _ (booleans_Decides s t) (booleans_Decides a b)))
cell_decided (kind.Head f s) (kind.Head g t) =
    Decides-like _ (λ e i. kind.Head (e.0 i) (e.1 i)) (λ e. ((cc), (cc)))
    (Decides-and _ _ (dir_decided f g) (booleans_Decides s t))
cell_decided a b = apart cell_code _ a b refl refl

pub cmd_decided : (a b : Cmd) → Decides (cmd.eq-value.it a b) (a ≡ b)
cmd_decided (Look p) (Look q) = Decides-like _ (ap Look) (λ e. cc) (pos_decided p q)
cmd_decided (Place p x) (Place q y) =
    Decides-like _ (λ e i. Place (e.0 i) (e.1 i)) (λ e. ((cc), (cc)))
    (Decides-and _ _ (pos_decided p q) (part_decided x y))
cmd_decided (Break p) (Break q) = Decides-like _ (ap Break) (λ e. cc) (pos_decided p q)
cmd_decided (Turn p) (Turn q) = Decides-like _ (ap Turn) (λ e. cc) (pos_decided p q)
cmd_decided (OpenChest p) (OpenChest q) =
    Decides-like _ (ap OpenChest) (λ e. cc) (pos_decided p q)
cmd_decided (Put p s x n) (Put q t y m) =
    Decides-like _ (λ e i. Put (e.0 i) (e.1.0 i) (e.1.1.0 i) (e.1.1.1 i))
    (λ e. ((cc), ((cc), ((cc), (cc)))))
    (Decides-and _ _ (pos_decided p q)
    (Decides-and _ _ (Decides-eqb s t)
    (Decides-and _ _ (Decides-eqb x y) (Decides-eqb n m))))
cmd_decided (Take p s n) (Take q t m) =
    Decides-like _ (λ e i. Take (e.0 i) (e.1.0 i) (e.1.1 i)) (λ e. ((cc), ((cc), (cc))))
    (Decides-and _ _ (pos_decided p q) (Decides-and _ _ (Decides-eqb s t) (Decides-eqb n m)))
cmd_decided a b = apart cmd_code _ a b refl refl

refusal_decided : (a b : Refusal) → Decides (refusal.eq-value.it a b) (a ≡ b)
refusal_decided a b = search (rules, rule_decided)

reply_decided : (a b : Reply) → Decides (reply.eq-value.it a b) (a ≡ b)
reply_decided (Seen x) (Seen y) = Decides-like _ (ap Seen) (λ e. cc) (cell_decided x y)
reply_decided (Done r) (Done s) = Decides-like _ (ap Done) (λ e. cc) (rule_decided r s)
reply_decided (Opened r xs) (Opened s ys) =
    Decides-like _ (λ e i. Opened (e.0 i) (e.1 i)) (λ e. ((cc), (cc)))
    (Decides-and _ _ (rule_decided r s) (slots_decided xs ys))
reply_decided a b = apart reply_code _ a b refl refl

pub answer_decided : (a b : Result Reply Refusal)
    → Decides (result_eq reply.eq-value.it refusal.eq-value.it a b) (a ≡ b)
answer_decided (Ok a) (Ok b) = Decides-like _ (ap Ok) (λ e. cc) (reply_decided a b)
answer_decided (Err a) (Err b) = Decides-like _ (ap Err) (λ e. cc) (refusal_decided a b)
answer_decided a b = (λ e. cc, λ e. cc)
