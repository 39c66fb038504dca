-- What the rules answer where the policy gives leave, and where it denies.
use Rattle.std.proofs.Common.{◌≡◌, ◌⊎◌, inl, List, ◌∷◌, Option, Some, None, Result, Ok, Err, IfOk, MatchResult, refl, sym, subst}
use Rattle.vx_geom.specs.declared.pos.Pos.{Pos}
use Rattle.vx_flag.specs.declared.action.Action.{Action}
use Rattle.vx_block.specs.declared.cell.Cell.{Cell}
use Rattle.vx_cells.specs.SectorCells.{SectorCells}
use Rattle.vx_region.specs.Regions.{Regions}
use Rattle.vx_decide.specs.declared.rule.Rule.{Rule}
use Rattle.vx_decide.specs.declared.verdict.Verdict.{Verdict}
use Rattle.vx_decide.specs.declared.verdict.Verdict.TheVariants.{Permit, Deny}
use Rattle.vx_sector.specs.SectorData.{SeatData}
use Rattle.vx_sector.specs.Commands.{place_of, action_of}
use Rattle.vx_sector.specs.Acting.{refuse_denied, rule_of, judged, hindrances, hindrance, first_some, ok_unless, reply_by, rules_answer, Fits}
use Rattle.vx_sector.specs.declared.cmd.Cmd.{Cmd}
use Rattle.vx_sector.specs.declared.cmd.Cmd.TheVariants.{Look, Place, Break, Turn, OpenChest, Put, Take}
use Rattle.vx_sector.specs.declared.effect.Effect.{Effect}
use Rattle.vx_sector.specs.declared.effect.Effect.TheVariants.{NewCell}
use Rattle.vx_sector.specs.declared.reply.Reply.{Reply}
use Rattle.vx_sector.specs.declared.reply.Reply.TheVariants.{Done}
use Rattle.vx_sector.specs.declared.refusal.Refusal.{Refusal}
use Rattle.vx_sector.specs.declared.refusal.Refusal.TheVariants.{Denied, NoMemory}

-- the rules answer by leave of this rule
abbrev IsBy : Regions → SectorCells → SeatData → Cmd → Rule → Type 0
IsBy rs c seat cmd rule = rules_answer rs c seat cmd ≡ ok_unless (hindrance c cmd) (reply_by rule c cmd)

-- what asks nobody is answered by leave of any rule
pub nobody_asked : (rs : Regions) (c : SectorCells) (seat : SeatData) (cmd : Cmd) (rule : Rule) → action_of cmd ≡ None → IsBy rs c seat cmd rule
unfolding rules_answer
nobody_asked rs c seat (Look p) rule none = refl
nobody_asked rs c seat (Place p part) rule none = absurd (cc)
nobody_asked rs c seat (Break p) rule none = absurd (cc)
nobody_asked rs c seat (Turn p) rule none = absurd (cc)
nobody_asked rs c seat (OpenChest p) rule none = absurd (cc)
nobody_asked rs c seat (Put p slot item count) rule none = absurd (cc)
nobody_asked rs c seat (Take p slot count) rule none = absurd (cc)

asked : (rs : Regions) (seat : SeatData) (cmd : Cmd) (a b : Action) (v : Verdict) → Some a ≡ Some b → judged rs seat b (place_of cmd) ≡ v
    → judged rs seat a (place_of cmd) ≡ v
asked rs seat cmd a b v same is = subst (λ action. judged rs seat action (place_of cmd) ≡ v) (sym (cc)) is

by : (v : Verdict) (os : List (Option Refusal)) (reply : Rule → Reply) (rule : Rule) → v ≡ Permit rule
    → ok_unless (first_some (refuse_denied v ∷ os)) (reply (rule_of v)) ≡ ok_unless (first_some os) (reply rule)
by v os reply rule is = rw is refl

-- what is permitted is answered by leave of that rule
pub permitted_by : (rs : Regions) (c : SectorCells) (seat : SeatData) (cmd : Cmd) (action : Action) (rule : Rule) → action_of cmd ≡ Some action
    → judged rs seat action (place_of cmd) ≡ Permit rule → IsBy rs c seat cmd rule
unfolding rules_answer
permitted_by rs c seat (Look p) action rule same is = absurd (cc)
permitted_by rs c seat (Place p part) action rule same is = by _ (hindrances c (Place p part)) Done rule (asked rs seat (Place p part) _ _ _ same is)
permitted_by rs c seat (Break p) action rule same is = by _ (hindrances c (Break p)) Done rule (asked rs seat (Break p) _ _ _ same is)
permitted_by rs c seat (Turn p) action rule same is = by _ (hindrances c (Turn p)) Done rule (asked rs seat (Turn p) _ _ _ same is)
permitted_by rs c seat (OpenChest p) action rule same is =
    by _ (hindrances c (OpenChest p)) (λ r. reply_by r c (OpenChest p)) rule (asked rs seat (OpenChest p) _ _ _ same is)
permitted_by rs c seat (Put p slot item count) action rule same is =
    by _ (hindrances c (Put p slot item count)) Done rule (asked rs seat (Put p slot item count) _ _ _ same is)
permitted_by rs c seat (Take p slot count) action rule same is =
    by _ (hindrances c (Take p slot count)) Done rule (asked rs seat (Take p slot count) _ _ _ same is)

against : (v : Verdict) (os : List (Option Refusal)) (reply : Reply) (rule : Rule) → v ≡ Deny rule
    → ok_unless (first_some (refuse_denied v ∷ os)) reply ≡ Err (Denied rule)
against v os reply rule is = rw is refl

-- what is denied is answered by the rule that denies
pub denied_by : (rs : Regions) (c : SectorCells) (seat : SeatData) (cmd : Cmd) (action : Action) (rule : Rule) → action_of cmd ≡ Some action
    → judged rs seat action (place_of cmd) ≡ Deny rule → rules_answer rs c seat cmd ≡ Err (Denied rule)
unfolding rules_answer
denied_by rs c seat (Look p) action rule same is = absurd (cc)
denied_by rs c seat (Place p part) action rule same is = against _ _ _ rule (asked rs seat (Place p part) _ _ _ same is)
denied_by rs c seat (Break p) action rule same is = against _ _ _ rule (asked rs seat (Break p) _ _ _ same is)
denied_by rs c seat (Turn p) action rule same is = against _ _ _ rule (asked rs seat (Turn p) _ _ _ same is)
denied_by rs c seat (OpenChest p) action rule same is = against _ _ _ rule (asked rs seat (OpenChest p) _ _ _ same is)
denied_by rs c seat (Put p slot item count) action rule same is = against _ _ _ rule (asked rs seat (Put p slot item count) _ _ _ same is)
denied_by rs c seat (Take p slot count) action rule same is = against _ _ _ rule (asked rs seat (Take p slot count) _ _ _ same is)

-- what is done with its reply, or what stands against it
abbrev IsDone : Result (Reply × Effect) Refusal → Rule → Result Effect Refusal → Type 0
IsDone r rule e = MatchResult r (λ done. (done.0 ≡ Done rule) × (e ≡ Ok done.1)) (λ refusal. e ≡ Err refusal)

-- done, or refused by what stands against it
pub done_by : (r : Result (Reply × Effect) Refusal) (rule : Rule) (e : Result Effect Refusal) (o : Option Refusal) (x : Effect)
    → IsDone r rule e → e ≡ ok_unless o x
    → MatchResult r (λ done. (o ≡ None) × (done.0 ≡ Done rule)) (λ refusal. (o ≡ Some refusal) ⊎ (refusal ≡ NoMemory))
done_by (Ok done) rule e None x is same = (refl, is.0)
done_by (Ok done) rule e (Some refusal) x is same = absurd (cc)
done_by (Err refusal) rule e None x is same = absurd (cc)
done_by (Err refusal) rule e (Some other) x is same = inl (cc)

-- what is done is what the command does
pub done_so : (r : Result (Reply × Effect) Refusal) (rule : Rule) (e : Result Effect Refusal) (o : Option Refusal) (x : Effect)
    → IsDone r rule e → e ≡ ok_unless o x
    → IfOk r (λ done. done.1 ≡ x)
done_so (Ok done) rule e None x is same = cc
done_so (Ok done) rule e (Some refusal) x is same = absurd (cc)
done_so (Err refusal) rule e o x is same = tt

-- another cell fits at each position
pub done_anywhere : (r : Result (Reply × Effect) Refusal) (rule : Rule) (e : Result Effect Refusal) (o : Option Refusal) (cell : Cell)
    (c : SectorCells) (p : Pos)
    → IsDone r rule e → e ≡ ok_unless o (NewCell cell) → IfOk r (λ done. Fits c p done.1)
done_anywhere (Ok done) rule e None cell c p is same = let new : done.1 ≡ NewCell cell = cc in subst (λ effect. Fits c p effect) (sym new) tt
done_anywhere (Ok done) rule e (Some refusal) cell c p is same = absurd (cc)
done_anywhere (Err refusal) rule e o cell c p is same = tt

-- what fits is done
pub done_there : (r : Result (Reply × Effect) Refusal) (rule : Rule) (e : Result Effect Refusal) (c : SectorCells) (p : Pos)
    → IsDone r rule e → IfOk e (λ effect. Fits c p effect) → IfOk r (λ done. Fits c p done.1)
done_there (Ok done) rule e c p is fits = subst (λ e. IfOk e (λ effect. Fits c p effect)) is.1 fits
done_there (Err refusal) rule e c p is fits = tt
