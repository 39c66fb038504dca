-- Events that lead from one machine to another: edits, and all that a tick takes.
use Rattle.std.proofs.Common.{◌≡◌, ℕ, zero, suc, ◌+◌, ◌<◌, ◌≤◌, Bool, true, false, not, ◌&&◌, List, [], ◌∷◌, ◌++◌, length, set, replicate, slice_get, Some, refl, sym, ap, ◌∙◌, subst, arith, append_assoc, append-nil}
use Rattle.std.specs.List.{list_all}
use Rattle.std.specs.Option.{is_none, option_map_or}
use Rattle.std.proofs.lemmas.Bool.{and_from, lt-ltb}
use Rattle.std.proofs.lemmas.List.{length_push}
use Rattle.vx_board.specs.Accepted.{most_edits}
use Rattle.vx_policy.specs.Asked.{Asked}
use Rattle.vx_policy.specs.Edits.{AreAccepted}
use Rattle.vx_policy.proofs.Turns.{after_push}
use Rattle.vx_tick.specs.declared.phase.Phase.{Phase}
use Rattle.vx_tick.specs.declared.phase.Phase.TheVariants.{Parts, Fates, Cells}
use Rattle.vx_windows.specs.Limits.{most_ticks}
use Rattle.vx_play.specs.Plays.{PlayData, policy_of, ticked}
use Rattle.vx_record.specs.Chronicles.{TickData}
use Rattle.vx_core.specs.Events.{Happening, Edits, Takes, Works, Fixes, Puts}
use Rattle.vx_core.specs.Machines.{MachineData, is_stage, has_reached, due, is_any_away, is_enabled, next_tick, done, after_event, after_events}
use Rattle.vx_core.specs.declared.stage.Stage.{Stage}
use Rattle.vx_core.specs.declared.stage.Stage.TheVariants.{Home, Taken, Worked}

-- some events lead from one machine to the other
abbrev pub Leads : MachineData → MachineData → Type 0
Leads m n = (events : List Happening) × (after_events m events ≡ n)

events_joined : (m : MachineData) (before since : List Happening)
    → after_events m (before ++ since) ≡ after_events (after_events m before) since
events_joined m [] since = refl
events_joined m (event ∷ before) since = events_joined (after_event m event) before since

-- from one to the next, and from that one on
pub and_on : (l m n : MachineData) → Leads l m → Leads m n → Leads l n
and_on l m n first then = (
  first.0 ++ then.0,
  events_joined l first.0 then.0 ∙ ap (λ x. after_events x then.0) first.1 ∙ then.1,
)

pub stays : (m : MachineData) → Leads m m
stays m = ([], refl)

enabled_does : (m : MachineData) (event : Happening) → is_enabled m event ≡ true → after_event m event ≡ done m event
unfolding after_event
enabled_does m event enabled = rw enabled refl

-- one event that may happen
pub by_event : (m : MachineData) (event : Happening) (n : MachineData) → is_enabled m event ≡ true → done m event ≡ n
    → Leads m n
by_event m event n enabled does = (event ∷ [], enabled_does m event enabled ∙ does)

-- with all of so many sectors at home
abbrev pub home : ℕ → PlayData → List TickData → MachineData
home count play ticks = record { play = play; stages = replicate count Home; is_fixed = false; ticks = ticks }

-- with these sectors at their stages, and fixed or not by these
abbrev staged : PlayData → List TickData → (List Stage → Bool) → List Stage → MachineData
staged play ticks fixed stages = record { play = play; stages = stages; is_fixed = fixed stages; ticks = ticks }

pub at_seam : {X : Type 0} (xs : List X) (x : X) (ys : List X) → slice_get (xs ++ x ∷ ys) (length xs) ≡ Some x
at_seam [] x ys = refl
at_seam (y ∷ xs) x ys = at_seam xs x ys

stage_at : (a : ℕ) (y x : Stage) (ys : List Stage) → slice_get (replicate a y ++ x ∷ ys) a ≡ Some x
stage_at zero y x ys = refl
stage_at (suc a) y x ys = stage_at a y x ys

stage_set : (a : ℕ) (y x : Stage) (ys : List Stage) → set (replicate a y ++ x ∷ ys) a y ≡ replicate (suc a) y ++ ys
stage_set zero y x ys = refl
stage_set (suc a) y x ys = ap (λ stages. y ∷ stages) (stage_set a y x ys)

all_pass : (p : Stage → Bool) (y x : Stage) → p y ≡ true → p x ≡ true → (a b : ℕ)
    → list_all p (replicate a y ++ replicate b x) ≡ true
all_pass p y x first last zero zero = refl
all_pass p y x first last zero (suc b) = and_from _ _ last (all_pass p y x first last zero b)
all_pass p y x first last (suc a) b = and_from _ _ first (all_pass p y x first last a b)

-- each sector in its turn goes from one stage to another
module _ (play : PlayData) (ticks : List TickData) (fixed : List Stage → Bool) (f : ℕ → Happening) (x y : Stage)
    (turn : (a b : ℕ) → Leads (staged play ticks fixed (replicate a y ++ replicate (suc b) x)) (staged play ticks fixed (replicate (suc a) y ++ replicate b x))) where
  turns : (n a b : ℕ) → a + b ≡ n
      → Leads (staged play ticks fixed (replicate a y ++ replicate b x)) (staged play ticks fixed (replicate n y))
  turns n a zero same =
      ([], ap (staged play ticks fixed) (append-nil (replicate a y) ∙ ap (λ k. replicate k y) (omega (arith, same))))
  turns n a (suc b) same =
      and_on _ _ _ (turn a b) (turns n (suc a) b (omega (arith, same)))

  round : (n : ℕ) → Leads (staged play ticks fixed (replicate n x)) (staged play ticks fixed (replicate n y))
  round n = turns n 0 n (omega arith)

four : (p q r s : Bool) → p ≡ true → q ≡ true → r ≡ true → s ≡ true → (p && q && r && s) ≡ true
four p q r s p_is q_is r_is s_is = rw (p_is, q_is, r_is, s_is) refl

is_due : (phase : Phase) → is_stage (due phase) (due phase) ≡ true
is_due Parts = refl
is_due Fates = refl
is_due Cells = refl

due_reached : (phase : Phase) → has_reached (due phase) (due phase) ≡ true
due_reached Parts = refl
due_reached Fates = refl
due_reached Cells = refl

worked_reached : (phase : Phase) → has_reached (due phase) (Worked phase) ≡ true
worked_reached Parts = refl
worked_reached Fates = refl
worked_reached Cells = refl

any_away : (a : ℕ) (ys : List Stage) → is_any_away (replicate a Home ++ Worked Cells ∷ ys) ≡ true
any_away zero ys = refl
any_away (suc a) ys = any_away a ys

none_away : (n : ℕ) → is_any_away (replicate n Home) ≡ false
none_away zero = refl
none_away (suc n) = none_away n

module _ (play : PlayData) (ticks : List TickData) where
  -- no tick is fixed
  abbrev open_with : List Stage → MachineData
  open_with stages = staged play ticks (λ s. false) stages

  take_turn : play.ticks < most_ticks → (a b : ℕ)
      → Leads (open_with (replicate a Taken ++ replicate (suc b) Home)) (open_with (replicate (suc a) Taken ++ replicate b Home))
  take_turn more a b =
      by_event _ (Takes a) _
      (four _ _ _ _ (ap (λ o. option_map_or (is_stage Home) o false) (stage_at a Taken Home (replicate b Home))) refl
      (all_pass (λ s. not (has_reached (Worked Parts) s)) Taken Home refl refl a (suc b)) (lt-ltb play.ticks most_ticks more))
      (ap open_with (stage_set a Taken Home (replicate b Home)))

  work_turn : (phase : Phase) (a b : ℕ)
      → Leads (open_with (replicate a (Worked phase) ++ replicate (suc b) (due phase))) (open_with (replicate (suc a) (Worked phase) ++ replicate b (due phase)))
  work_turn phase a b =
      by_event _ (Works phase a) _
      (and_from _ _ (ap (λ o. option_map_or (is_stage (due phase)) o false) (stage_at a (Worked phase) (due phase) (replicate b (due phase))) ∙ is_due phase)
      (all_pass (has_reached (due phase)) (Worked phase) (due phase) (worked_reached phase) (due_reached phase) a (suc b)))
      (ap open_with (stage_set a (Worked phase) (due phase) (replicate b (due phase))))

  -- a tick is fixed as long as a sector is away
  abbrev closed_with : List Stage → MachineData
  closed_with stages = staged play ticks is_any_away stages

  put_turn : (a b : ℕ)
      → Leads (closed_with (replicate a Home ++ replicate (suc b) (Worked Cells))) (closed_with (replicate (suc a) Home ++ replicate b (Worked Cells)))
  put_turn a b =
      by_event _ (Puts a) _
      (and_from _ _ (any_away a (replicate b (Worked Cells)))
      (ap (λ o. option_map_or (is_stage (Worked Cells)) o false) (stage_at a Home (Worked Cells) (replicate b (Worked Cells)))))
      (ap closed_with (stage_set a Home (Worked Cells) (replicate b (Worked Cells))))

  work_round : (phase : Phase) (n : ℕ) → Leads (open_with (replicate n (due phase))) (open_with (replicate n (Worked phase)))
  work_round phase n = round play ticks (λ s. false) (Works phase) (due phase) (Worked phase) (work_turn phase) n

  -- all work of a tick
  all_work : (n : ℕ) → play.ticks < most_ticks → Leads (home n play ticks) (open_with (replicate n (Worked Cells)))
  all_work n more =
      and_on _ _ _ (round play ticks (λ s. false) Takes Home Taken (take_turn more) n)
      (and_on _ _ _ (work_round Parts n) (and_on _ _ _ (work_round Fates n) (work_round Cells n)))

  -- all sectors back
  all_back : (n : ℕ) → Leads (closed_with (replicate n (Worked Cells))) (home n play ticks)
  all_back n =
      let back = round play ticks is_any_away Puts (Worked Cells) Home put_turn n in
      (back.0, back.1 ∙ ap (λ fixed. record { play = play; stages = replicate n Home; is_fixed = fixed; ticks = ticks }) (none_away n))

-- the tick, once all work is done
fix : (play : PlayData) (ticks : List TickData) (k : ℕ) → play.ticks < most_ticks
    → Leads (open_with play ticks (replicate (suc k) (Worked Cells)))
    (closed_with (ticked play) (ticks ++ next_tick play ∷ []) (replicate (suc k) (Worked Cells)))
fix play ticks k more =
    by_event _ Fixes _
    (and_from _ _ (all_pass (has_reached (Worked Cells)) (Worked Cells) (Worked Cells) refl refl 0 (suc k))
    (lt-ltb play.ticks most_ticks more))
    refl

-- a whole tick
pub by_tick : (play : PlayData) (ticks : List TickData) (n : ℕ) → 0 < n → play.ticks < most_ticks
    → Leads (home n play ticks) (home n (ticked play) (ticks ++ next_tick play ∷ []))
by_tick play ticks zero some more = absurd (omega (arith, some))
by_tick play ticks (suc k) some more =
    and_on _ _ _ (all_work play ticks (suc k) more)
    (and_on _ _ _ (fix play ticks k more) (all_back (ticked play) (ticks ++ next_tick play ∷ []) (suc k)))

-- edits, one after another
abbrev pub with_edits : PlayData → List Asked → PlayData
with_edits play edits = record play { accepted = edits }

pub by_edits : (edits : List Asked) (n : ℕ) (play : PlayData) (ticks : List TickData) → AreAccepted (policy_of play) edits
    → length play.accepted + length edits ≤ most_edits
    → Leads (home n play ticks) (home n (with_edits play (play.accepted ++ edits)) ticks)
by_edits [] n play ticks all few =
    ([], ap (λ accepted. home n (with_edits play accepted) ticks) (sym (append-nil play.accepted)))
by_edits (e ∷ edits) n play ticks all few =
    let next = with_edits play (play.accepted ++ e ∷ []) in
    let first : Leads (home n play ticks) (home n next ticks) =
    by_event _ (Edits e) _ (and_from _ _ (ap is_none all.0) (lt-ltb (length play.accepted) most_edits (omega (arith, few)))) refl in
    let rest = by_edits edits n next ticks (subst (λ rs. AreAccepted rs edits) (sym (after_push play.first play.accepted e)) all.1)
    (omega (arith, few, length_push play.accepted e)) in
    and_on _ _ _ first
    (rest.0, rest.1 ∙ ap (λ accepted. home n (with_edits play accepted) ticks) (append_assoc play.accepted (e ∷ []) edits))
