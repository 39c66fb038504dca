-- What an answer of the rules says, and what a command leaves.
use Rattle.std.proofs.Common.{◌≡◌, ◌≢◌, ◌↔◌, Bool, true, false, List, [], ◌∷◌, Option, Some, None, Ok, Err, if◌then◌else◌, refl, ap, sym, subst}
use Rattle.vx_geom.specs.declared.pos.Pos.{Pos}
use Rattle.vx_geom.specs.Sizes.{AreSizes}
use Rattle.vx_flag.specs.declared.action.Action.{Action}
use Rattle.vx_flag.specs.declared.action.Action.TheVariants.{Placing, Breaking, Turning, Reaching}
use Rattle.vx_store.specs.declared.stack.Stack.{Stack}
use Rattle.vx_cells.specs.SectorCells.{SectorCells, holds, block_at}
use Rattle.vx_cells.proofs.CellLaws.{other_blocks_stay}
use Rattle.vx_region.specs.Regions.{Regions}
use Rattle.vx_decide.specs.declared.rule.Rule.{Rule}
use Rattle.vx_decide.specs.declared.verdict.Verdict.{Verdict}
use Rattle.vx_decide.specs.declared.verdict.Verdict.TheVariants.{Permit, Deny}
use Rattle.vx_sector.specs.SectorData.{SectorData, SeatData}
use Rattle.vx_sector.specs.Commands.{place_of}
use Rattle.vx_sector.specs.Acting.{refuse_if, refuse_denied, rule_of, judged, slots_at, hindrances, first_some, ok_unless, rules_answer, applied, effect_by}
use Rattle.vx_sector.specs.Windows.{leaves_trace, is_recorded, sector_after}
use Rattle.vx_sector.specs.Laws.{OnePlaceChanges, RefusalLeavesCells, DeniedByThePolicy, ShownByLeave}
use Rattle.vx_sector.specs.declared.cmd.Cmd.{Cmd}
use Rattle.vx_sector.specs.declared.cmd.Cmd.TheVariants.{Look, Place, Break, Turn, OpenChest, Put, Take}
use Rattle.vx_sector.specs.declared.effect.Effect.{Effect}
use Rattle.vx_sector.specs.declared.effect.Effect.TheVariants.{Same, NewCell, NewSlot}
use Rattle.vx_sector.specs.declared.reply.Reply.{Reply}
use Rattle.vx_sector.specs.declared.reply.Reply.TheVariants.{Done, Opened}
use Rattle.vx_sector.specs.declared.refusal.Refusal.{Refusal}
use Rattle.vx_sector.specs.declared.refusal.Refusal.TheVariants.{OutOfWorld, HistoryFull, Denied, Occupied, Nothing, NotLever, NotChest, NotEmpty, Extended, Unbreakable, NoSlot, OtherItem, BadCount, NoMemory}

-- a refusal that the cells cause
abbrev stands : Refusal → Bool
stands OutOfWorld = false
stands HistoryFull = false
stands NoMemory = false
stands (Denied rule) = false
stands _ = true

-- if there is a refusal, the cells cause it
abbrev Stands : Option Refusal → Type 0
Stands None = Unit {0}
Stands (Some refusal) = stands refusal ≡ true

abbrev AllStand : List (Option Refusal) → Type 0
AllStand [] = Unit {0}
AllStand (o ∷ os) = Stands o × AllStand os

if_stands : (b : Bool) (refusal : Refusal) → stands refusal ≡ true → Stands (refuse_if b refusal)
if_stands true refusal h = h
if_stands false refusal h = tt

first_stands : (os : List (Option Refusal)) → AllStand os → Stands (first_some os)
first_stands [] all = tt
first_stands (None ∷ os) all = first_stands os all.1
first_stands (Some refusal ∷ os) all = all.0

hindrances_stand : (c : SectorCells) (cmd : Cmd) → AllStand (hindrances c cmd)
hindrances_stand c (Look p) = tt
hindrances_stand c (Place p part) = (if_stands _ Occupied refl, tt)
hindrances_stand c (Break p) = (if_stands _ Nothing refl, (if_stands _ Extended refl, (if_stands _ Unbreakable refl, (if_stands _ NotEmpty refl, tt))))
hindrances_stand c (Turn p) = (if_stands _ NotLever refl, tt)
hindrances_stand c (OpenChest p) = (if_stands _ NotChest refl, tt)
hindrances_stand c (Put p slot item count) = (if_stands _ NotChest refl, (if_stands _ NoSlot refl, (if_stands _ OtherItem refl, (if_stands _ BadCount refl, tt))))
hindrances_stand c (Take p slot count) = (if_stands _ NotChest refl, (if_stands _ NoSlot refl, (if_stands _ BadCount refl, tt)))

hindrance_stands : (c : SectorCells) (cmd : Cmd) → Stands (first_some (hindrances c cmd))
hindrance_stands c cmd = first_stands _ (hindrances_stand c cmd)

traced : (refusal : Refusal) → stands refusal ≡ true → leaves_trace refusal ≡ true
traced OutOfWorld h = h
traced HistoryFull h = h
traced NoMemory h = h
traced (Denied rule) h = refl
traced Occupied h = refl
traced Nothing h = refl
traced NotLever h = refl
traced NotChest h = refl
traced NotEmpty h = refl
traced Extended h = refl
traced Unbreakable h = refl
traced NoSlot h = refl
traced OtherItem h = refl
traced BadCount h = refl

unless_traced : (o : Option Refusal) (reply : Reply) → Stands o → is_recorded (ok_unless o reply) ≡ true
unless_traced None reply h = refl
unless_traced (Some refusal) reply h = traced refusal h

judged_traced : (v : Verdict) (os : List (Option Refusal)) (reply : Reply) → Stands (first_some os) → is_recorded (ok_unless (first_some (refuse_denied v ∷ os)) reply) ≡ true
judged_traced (Permit rule) os reply h = unless_traced (first_some os) reply h
judged_traced (Deny rule) os reply h = refl

-- every answer of the rules is recorded
pub answer_recorded : (regions : Regions) (c : SectorCells) (seat : SeatData) (cmd : Cmd) → is_recorded (rules_answer regions c seat cmd) ≡ true
unfolding rules_answer
answer_recorded regions c seat (Look p) = refl
answer_recorded regions c seat (Place p part) = judged_traced (judged regions seat Placing p) _ _ (hindrance_stands c (Place p part))
answer_recorded regions c seat (Break p) = judged_traced (judged regions seat Breaking p) _ _ (hindrance_stands c (Break p))
answer_recorded regions c seat (Turn p) = judged_traced (judged regions seat Turning p) _ _ (hindrance_stands c (Turn p))
answer_recorded regions c seat (OpenChest p) = judged_traced (judged regions seat Reaching p) _ _ (hindrance_stands c (OpenChest p))
answer_recorded regions c seat (Put p slot item count) = judged_traced (judged regions seat Reaching p) _ _ (hindrance_stands c (Put p slot item count))
answer_recorded regions c seat (Take p slot count) = judged_traced (judged regions seat Reaching p) _ _ (hindrance_stands c (Take p slot count))

-- what is given where nothing stands against it
pub given : {X : Type 0} (o : Option Refusal) (x y : X) → Ok x ≡ ok_unless o y → x ≡ y
given None x y same = cc
given (Some refusal) x y same = cc

told : (P : Action → Type 0) (a b : Action) → Some a ≡ Some b → P b → P a
told P a b same = subst P (sym (cc))

no_denial : (o : Option Refusal) (reply : Reply) (rule : Rule) → Stands o → ok_unless o reply ≢ Err (Denied rule)
no_denial None reply rule h same = cc
no_denial (Some refusal) reply rule h same =
    let denied : refusal ≡ Denied rule = cc in
    let not_so : stands (Denied rule) ≡ true = subst (λ r. stands r ≡ true) denied h in cc

denied_then : (v : Verdict) (os : List (Option Refusal)) (reply : Reply) (rule : Rule) → Stands (first_some os)
    → ok_unless (first_some (refuse_denied v ∷ os)) reply ≡ Err (Denied rule) → v ≡ Deny rule
denied_then (Permit by) os reply rule h same = absurd (no_denial (first_some os) reply rule h same)
denied_then (Deny by) os reply rule h same = ap Deny cc

denied_if : (v : Verdict) (os : List (Option Refusal)) (reply : Reply) (rule : Rule) → v ≡ Deny rule
    → ok_unless (first_some (refuse_denied v ∷ os)) reply ≡ Err (Denied rule)
denied_if v os reply rule deny = rw deny refl

by_policy : (regions : Regions) (seat : SeatData) (p : Pos) (a : Action) (os : List (Option Refusal)) (reply : Reply) (rule : Rule) → Stands (first_some os)
    → (ok_unless (first_some (refuse_denied (judged regions seat a p) ∷ os)) reply ≡ Err (Denied rule))
    ↔ ((action : Action) × (Some a ≡ Some action) × (judged regions seat action p ≡ Deny rule))
by_policy regions seat p a os reply rule h = (
  λ same. (a, refl, denied_then _ os reply rule h same),
  λ asked. denied_if _ os reply rule (told (λ b. judged regions seat b p ≡ Deny rule) a asked.0 asked.1 asked.2),
)

pub denied_by_the_policy : DeniedByThePolicy
unfolding rules_answer
denied_by_the_policy regions c seat (Look p) rule = (λ same. cc, λ asked. let nobody = asked.1 in cc)
denied_by_the_policy regions c seat (Place p part) rule = by_policy regions seat p Placing _ _ rule (hindrance_stands c (Place p part))
denied_by_the_policy regions c seat (Break p) rule = by_policy regions seat p Breaking _ _ rule (hindrance_stands c (Break p))
denied_by_the_policy regions c seat (Turn p) rule = by_policy regions seat p Turning _ _ rule (hindrance_stands c (Turn p))
denied_by_the_policy regions c seat (OpenChest p) rule = by_policy regions seat p Reaching _ _ rule (hindrance_stands c (OpenChest p))
denied_by_the_policy regions c seat (Put p slot item count) rule = by_policy regions seat p Reaching _ _ rule (hindrance_stands c (Put p slot item count))
denied_by_the_policy regions c seat (Take p slot count) rule = by_policy regions seat p Reaching _ _ rule (hindrance_stands c (Take p slot count))

opened_then : (v : Verdict) (os : List (Option Refusal)) (rule : Rule) (slots there : List (Option Stack))
    → ok_unless (first_some (refuse_denied v ∷ os)) (Opened (rule_of v) there) ≡ Ok (Opened rule slots) → (v ≡ Permit rule) × (slots ≡ there)
opened_then (Permit by) os rule slots there same =
    let one : Opened by there ≡ Opened rule slots = said (first_some os) (Opened by there) (Opened rule slots) same in
    let by_rule : by ≡ rule = cc in
    let as_there : slots ≡ there = cc in
    (ap Permit by_rule, as_there)
  where
    said : (o : Option Refusal) (x y : Reply) → ok_unless o x ≡ Ok y → x ≡ y
    said None x y h = cc
    said (Some refusal) x y h = cc
opened_then (Deny by) os rule slots there same = cc

not_opened : (o : Option Refusal) (rule by : Rule) (slots : List (Option Stack)) → ok_unless o (Done by) ≢ Ok (Opened rule slots)
not_opened None rule by slots same = cc
not_opened (Some refusal) rule by slots same = cc

pub shown_by_leave : ShownByLeave
unfolding rules_answer
shown_by_leave regions c seat (Look p) rule slots same = cc
shown_by_leave regions c seat (Place p part) rule slots same = absurd (not_opened _ _ _ _ same)
shown_by_leave regions c seat (Break p) rule slots same = absurd (not_opened _ _ _ _ same)
shown_by_leave regions c seat (Turn p) rule slots same = absurd (not_opened _ _ _ _ same)
shown_by_leave regions c seat (OpenChest p) rule slots same = opened_then (judged regions seat Reaching p) _ rule slots (slots_at c p) same
shown_by_leave regions c seat (Put p slot item count) rule slots same = absurd (not_opened _ _ _ _ same)
shown_by_leave regions c seat (Take p slot count) rule slots same = absurd (not_opened _ _ _ _ same)

others_stay : (c : SectorCells) (p q : Pos) (effect : Effect) → AreSizes c.bounds → holds c p ≡ true → holds c q ≡ true → q ≢ p
    → block_at (applied c p effect) q ≡ block_at c q
others_stay c p q Same sizes held_p held_q differ = refl
others_stay c p q (NewCell new) sizes held_p held_q differ = other_blocks_stay c p q _ sizes held_p held_q differ
others_stay c p q (NewSlot slot content) sizes held_p held_q differ = other_blocks_stay c p q _ sizes held_p held_q differ

either_way : (P : SectorCells → Type 0) (b : Bool) (s t : SectorData) → P s.cells → P t.cells → P (if b then t else s).cells
either_way P true s t old new = new
either_way P false s t old new = old

pub one_place_changes : OnePlaceChanges
unfolding sector_after
one_place_changes s seat cmd answer q sizes held_p held_q differ =
    either_way (λ c. block_at c q ≡ block_at s.cells q) (is_recorded answer) s _ refl
    (others_stay s.cells (place_of cmd) q (effect_by s.cells cmd answer) sizes held_p held_q differ)

pub refusal_leaves_cells : RefusalLeavesCells
unfolding sector_after
refusal_leaves_cells s seat cmd refusal = either_way (λ c. c ≡ s.cells) (leaves_trace refusal) s _ refl refl
