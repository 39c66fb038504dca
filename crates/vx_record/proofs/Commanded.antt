-- What each command of a window leaves at a position.
use Rattle.std.proofs.Common.{◌≡◌, ◌≢◌, ◌⊎◌, ℕ, true, false, List, [], ◌∷◌, ◌++◌, Option, Some, None, Result, Ok, Err, refl, sym, ap, ◌∙◌, subst, inl, inr}
use Rattle.std.specs.Option.{option_map_or}
use Rattle.std.proofs.lemmas.List.Elements.{All-head, All-tail}
use Rattle.std.specs.Prelude.{nat_eq}
use Rattle.vx_geom.specs.declared.pos.Pos.{Pos}
use Rattle.vx_geom.specs.Sizes.{AreSizes, sector_of}
use Rattle.vx_cells.specs.SectorCells.{SectorCells, IsWhole, holds, block_at}
use Rattle.vx_flag.specs.declared.action.Action.{Action}
use Rattle.vx_flag.specs.declared.action.Action.TheVariants.{Placing, Breaking, Turning, Reaching}
use Rattle.vx_region.specs.Regions.{Regions}
use Rattle.vx_decide.specs.declared.rule.Rule.{Rule}
use Rattle.vx_decide.specs.declared.verdict.Verdict.{Verdict}
use Rattle.vx_decide.specs.declared.verdict.Verdict.TheVariants.{Permit, Deny}
use Rattle.vx_sector.specs.Acting.{judged, rule_of, refuse_denied, first_some, ok_unless, rules_answer, cells_by}
use Rattle.vx_sector.specs.Commands.{place_of, action_of}
use Rattle.vx_sector.specs.SectorData.{SectorData, SeatData, EntryData}
use Rattle.vx_sector.specs.Windows.{IsWindow, cells_after, answer_of, is_full, is_recorded, sector_after}
use Rattle.vx_sector.specs.declared.cmd.Cmd.{Cmd}
use Rattle.vx_sector.specs.declared.cmd.Cmd.TheVariants.{Look, Place, Break, Turn, OpenChest, Put, Take}
use Rattle.vx_sector.specs.declared.refusal.Refusal.{Refusal}
use Rattle.vx_sector.specs.declared.reply.Reply.{Reply}
use Rattle.vx_sector.specs.declared.reply.Reply.TheVariants.{Done}
use Rattle.vx_sector.proofs.ActingLemmas.{answer_recorded, one_place_changes}
use Rattle.vx_sector.proofs.Keeping.{sectors_stay_whole}
use Rattle.vx_sector.proofs.Outside.{answered_by_the_rules}
use Rattle.vx_tick.proofs.Puts.{cases_place}
use Rattle.vx_windows.specs.Sectors.{opened_with}
use Rattle.vx_record.specs.Chronicles.{IsSeatOf, AreSeated}
use Rattle.vx_record.specs.Owners.{as_built, standing_after, HasLeave, IsByCommand}

said : {X : Type 0} (o : Option Refusal) (x y : X) → ok_unless o x ≡ Ok y → x ≡ y
said None x y same = cc
said (Some refusal) x y same = cc

done_then : (v : Verdict) (os : List (Option Refusal)) (reply : Reply)
    → ok_unless (first_some (refuse_denied v ∷ os)) (Done (rule_of v)) ≡ Ok reply
    → (rule : Rule) × (reply ≡ Done rule) × (v ≡ Permit rule)
done_then (Permit by) os reply same = (by, sym (said (first_some os) (Done by) reply same), refl)
done_then (Deny by) os reply same = cc

module _ (policy : Regions) (c : SectorCells) (seat : SeatData) where
  -- the command of the seat, with this answer, was done by leave
  abbrev IsDone : Cmd → Result Reply Refusal → Type 0
  IsDone cmd answer = HasLeave policy (record { seat = seat; cmd = cmd; answer = answer })

  -- what the policy permits for an action at a position, and is done
  done_by : (cmd : Cmd) (action : Action) (os : List (Option Refusal)) (reply : Reply) → action_of cmd ≡ Some action
      → ok_unless (first_some (refuse_denied (judged policy seat action (place_of cmd)) ∷ os)) (Done (rule_of (judged policy seat action (place_of cmd)))) ≡ Ok reply
      → IsDone cmd (Ok reply)
  done_by cmd action os reply asked same =
      let done = done_then (judged policy seat action (place_of cmd)) os reply same in
      record { rule = done.0; told = ap Ok done.1; action = action; asked = asked; permitted = done.2 }

  -- a command changes nothing, or is done
  by_reply : (cmd : Cmd) (reply : Reply) → rules_answer policy c seat cmd ≡ Ok reply
      → (cells_by c cmd (Ok reply) ≡ c) ⊎ IsDone cmd (Ok reply)
  unfolding rules_answer
  by_reply (Look p) reply is = inl refl
  by_reply (Place p part) reply is = inr (done_by (Place p part) Placing _ reply refl is)
  by_reply (Break p) reply is = inr (done_by (Break p) Breaking _ reply refl is)
  by_reply (Turn p) reply is = inr (done_by (Turn p) Turning _ reply refl is)
  by_reply (OpenChest p) reply is = inl refl
  by_reply (Put p slot item count) reply is = inr (done_by (Put p slot item count) Reaching _ reply refl is)
  by_reply (Take p slot count) reply is = inr (done_by (Take p slot count) Reaching _ reply refl is)

  by_answer : (cmd : Cmd) (answer : Result Reply Refusal) → rules_answer policy c seat cmd ≡ answer
      → (cells_by c cmd answer ≡ c) ⊎ IsDone cmd answer
  by_answer cmd (Err refusal) is = inl refl
  by_answer cmd (Ok reply) is = by_reply cmd reply is

-- one entry of a window over these cells
module _ (policy : Regions) (c : SectorCells) (e : EntryData) (held : holds c (place_of e.cmd) ≡ true)
    (is : e.answer ≡ rules_answer policy c e.seat e.cmd) where
  abbrev next : SectorCells
  next = cells_by c e.cmd e.answer

  -- a sector in its first window, which has room
  abbrev fresh : SectorData
  fresh = opened_with policy c

  by_rules : answer_of fresh e.seat e.cmd ≡ e.answer
  unfolding is_full
  by_rules = sym (answered_by_the_rules fresh e.seat e.cmd held refl) ∙ sym is

  left : (sector_after fresh e.seat e.cmd e.answer).cells ≡ next
  unfolding sector_after
  left =
      let traced : is_recorded e.answer ≡ true = subst (λ a. is_recorded a ≡ true) (sym is) (answer_recorded policy c e.seat e.cmd) in
      rw traced refl

  elsewhere : (q : Pos) → AreSizes c.bounds → holds c q ≡ true → q ≢ place_of e.cmd → block_at next q ≡ block_at c q
  elsewhere q sizes held_q differ =
      subst (λ d. block_at d q ≡ block_at c q) left
      (one_place_changes fresh e.seat e.cmd e.answer q sizes held held_q differ)

  kept : IsWhole c → IsWhole next × (next.bounds ≡ c.bounds) × (next.sector ≡ c.sector)
  kept whole =
      subst (λ (d : SectorCells). IsWhole d × (d.bounds ≡ c.bounds) × (d.sector ≡ c.sector))
      (ap (λ a. (sector_after fresh e.seat e.cmd a).cells) by_rules ∙ left)
      (sectors_stay_whole fresh e.seat e.cmd whole)

  here : (next ≡ c) ⊎ HasLeave policy e
  here = by_answer policy c e.seat e.cmd e.answer (sym is)

same_holds : (c d : SectorCells) (p : Pos) → d.bounds ≡ c.bounds → d.sector ≡ c.sector → holds d p ≡ holds c p
unfolding holds
same_holds c d p bounds sector = λ i. option_map_or (nat_eq (sector i)) (sector_of (bounds i) p) false

module _ (names : List (List ℕ)) (policy : Regions) where
  -- the sector stays in its place, and whole
  pub window_keeps : (c : SectorCells) (window : List EntryData) → IsWhole c → IsWindow policy c window
      → IsWhole (cells_after c window) × ((cells_after c window).bounds ≡ c.bounds)
      × ((cells_after c window).sector ≡ c.sector)
  window_keeps c [] whole is = (whole, refl, refl)
  window_keeps c (e ∷ window) whole is =
      let first = kept policy c e is.0 is.1 whole in
      let rest = window_keeps (cells_by c e.cmd e.answer) window first.0 is.2 in
      (rest.0, rest.1 ∙ first.1, rest.2 ∙ first.2)

  -- an entry of a window leaves what stands at a position, or is a command there by leave
  pub entry_leaves : (c : SectorCells) (earlier : List EntryData) (e : EntryData) (later : List EntryData) (p : Pos)
      → AreSizes c.bounds → IsWhole c → holds c p ≡ true → IsWindow policy c (earlier ++ e ∷ later)
      → AreSeated names (earlier ++ e ∷ later)
      → (standing_after c (earlier ++ e ∷ []) p ≡ standing_after c earlier p) ⊎ IsByCommand names policy e p
  entry_leaves c [] e later p sizes whole held is seated =
      elim (cases_place p (place_of e.cmd)) [
        | inr differ ↦ inl (ap as_built (elsewhere policy c e is.0 is.1 p sizes held differ))
        | inl place ↦ elim (here policy c e is.0 is.1) [
          | inl nothing ↦ inl (ap (λ d. standing_after d [] p) nothing)
          | inr leave ↦ inr (record {
            seat = All-head (λ (entry : EntryData). IsSeatOf names entry.seat) e later seated;
            place = sym place;
            leave = leave;
          })
        ]
      ]
  entry_leaves c (d ∷ earlier) e later p sizes whole held is seated =
      let next = cells_by c d.cmd d.answer in
      let first = kept policy c d is.0 is.1 whole in
      entry_leaves next earlier e later p (subst AreSizes (sym first.1) sizes) first.0
      (same_holds c next p first.1 first.2 ∙ held) is.2
      (All-tail (λ (entry : EntryData). IsSeatOf names entry.seat) d (earlier ++ e ∷ later) seated)
