-- What each line does in a session, and is replied.
use Rattle.std.proofs.Common.{◌≡◌, ◌+◌, ℕ, Bool, true, false, bytes_eq, if◌then◌else◌, suc, arith, codes, decimal, List, [], ◌∷◌, ◌++◌, length, option_map, is_some, Option, Some, None, Result, Ok, Err, IfOk, IfErr, refl, sym, ap, ◌∙◌, subst, append-nil}
use Rattle.std.specs.Io.KnownBytes.{Appends}
use Rattle.std.proofs.lemmas.List.{length-map}
use Rattle.std.proofs.lemmas.Slice.Eq.{bytes_eq-Decides}
use Rattle.vx_geom.specs.declared.pos.Pos.{Pos}
use Rattle.vx_flag.specs.declared.action.Action.{Action}
use Rattle.vx_region.specs.Regions.{Regions}
use Rattle.vx_region.specs.Subjects.{Named}
use Rattle.vx_decide.specs.Verdict.{verdict}
use Rattle.vx_decide.specs.declared.verdict.Verdict.{Verdict}
use Rattle.vx_policy.specs.Asked.{Asked}
use Rattle.vx_policy.specs.Edits.{after, number_given}
use Rattle.vx_policy.specs.Refusals.{refusal}
use Rattle.vx_policy.specs.declared.edit_refusal.EditRefusal.{EditRefusal}
use Rattle.vx_board.specs.Accepted.{IsAnswer}
use Rattle.vx_board.specs.Texts.{edit_text}
use Rattle.vx_board.specs.declared.edited.Edited as answers
use Rattle.vx_board.specs.declared.desk_error.DeskError.TheVariants.{Refused}
use Rattle.vx_sector.specs.declared.cmd.Cmd.{Cmd}
use Rattle.vx_sector.specs.declared.reply.Reply.{Reply}
use Rattle.vx_sector.specs.declared.refusal.Refusal.{Refusal}
use Rattle.vx_tick.specs.declared.fate.Fate.{Fate}
use Rattle.vx_record.specs.Chronicles.{TickData, IsSeatOf}
use Rattle.vx_play.specs.Plays.{number_from, is_named}
use Rattle.vx_audit.specs.Deeds.{DeedData, Called, Edited, Ticked, edits_in}
use Rattle.vx_session.specs.Sessions.{SessionData, IsOf, Does, opening_of, names_of, ticks_of}
use Rattle.vx_grammar.specs.ScriptLines.{Act, Region, Tick, Explain, Nothing, Together}
use Rattle.vx_json.specs.Texts.{line_text, answer_text}
use Rattle.vx_script.specs.Replies.{edit_answer_text, explained_text, fates_text, policy_after, ticks_in, IsJudged, RepliesOutside}
use Rattle.vx_script.specs.Sessions.{HasDone}
use Rattle.vx_script.specs.Stages.{Outside}
use Rattle.vx_script.proofs.Doing.{one_done}

module _ (rs : Regions) (old new : SessionData) (was written_now : Option (List ℕ)) (opens : opening_of new ≡ opening_of old) where
  -- where nothing is done the session was what it was
  same_deeds : new ≡ old → (done : List DeedData) → IsOf done old → IsOf (done ++ []) new
  same_deeds same done is = subst (λ s. IsOf (done ++ []) s) (sym same) (subst (λ d. IsOf d old) (sym (append-nil done)) is)

  pub nothing_done : new ≡ old → Appends was written_now [] → HasDone rs old new Outside (Some Nothing ∷ []) was written_now
  nothing_done same written = one_done rs old new Outside (Some Nothing) [] [] was written_now opens written refl (λ done is. ((refl, refl), same_deeds same done is))

  -- the beginning of a block
  pub together_done : new ≡ old → Appends was written_now [] → HasDone rs old new Outside (Some Together ∷ []) was written_now
  together_done same written = one_done rs old new Outside (Some Together) [] [] was written_now opens written refl (λ done is. ((refl, refl), same_deeds same done is))

  -- an edit
  pub edit_done : (e : Asked) (answer : Result answers.Edited EditRefusal)
      → IfOk answer (λ edited. Does old (Edited e) new × (new.edits ≡ old.edits ++ e ∷ []) × IsAnswer (after rs old.edits) (length old.edits) e (Ok edited))
      → IfErr answer (λ cause. (new ≡ old) × IsAnswer (after rs old.edits) (length old.edits) e (Err (Refused cause)))
      → Appends was written_now (line_text (edit_answer_text answer)) → HasDone rs old new Outside (Some (Region e) ∷ []) was written_now
  edit_done e (Ok edited) accepted refused written =
      one_done rs old new Outside (Some (Region e)) (Edited e ∷ []) (line_text (edit_answer_text (Ok edited))) was written_now opens written refl
      (λ done is. (judged done is.edits, accepted.0 done is))
    where
      judged : (done : List DeedData) → old.edits ≡ edits_in done → RepliesOutside rs (names_of old) done (Some (Region e)) (Edited e ∷ []) (line_text (edit_answer_text (Ok edited)))
      judged done same =
          let none : refusal (policy_after rs done) e ≡ None = subst (λ es. refusal (after rs es) e ≡ None) same accepted.2.1 in
          let count : edited.count ≡ length (edits_in done) + 1 = accepted.2.2 ∙ ap (λ (es : List Asked). length es + 1) same in
          let number : option_map (λ n. n.0) edited.region ≡ number_given (policy_after rs done) e = subst (λ es. option_map (λ n. n.0) edited.region ≡ number_given (after rs es) e) same accepted.2.3 in
          subst (λ cause. IsJudged rs done e cause (Edited e ∷ []) (line_text (edit_answer_text (Ok edited)))) (sym none)
          (refl, λ i. line_text (edit_text (count i) (number i)))
  edit_done e (Err cause) accepted refused written =
      one_done rs old new Outside (Some (Region e)) [] (line_text (edit_answer_text (Err cause))) was written_now opens written refl
      (λ done is. (judged done is.edits, same_deeds refused.0 done is))
    where
      judged : (done : List DeedData) → old.edits ≡ edits_in done → RepliesOutside rs (names_of old) done (Some (Region e)) [] (line_text (edit_answer_text (Err cause)))
      judged done same =
          let some : refusal (policy_after rs done) e ≡ Some cause = subst (λ es. refusal (after rs es) e ≡ Some cause) same refused.1.1 in
          subst (λ found. IsJudged rs done e found [] (line_text (edit_answer_text (Err cause)))) (sym some) (refl, refl)

  -- a tick
  pub tick_done : (fates : List (Pos × Fate)) (tick : ℕ) → Does old (Ticked fates) new → tick ≡ ticks_of new → ticks_of new ≡ ticks_of old + 1
      → Appends was written_now (line_text (codes "tick " ++ decimal tick) ++ fates_text fates) → HasDone rs old new Outside (Some Tick ∷ []) was written_now
  tick_done fates tick does told number written =
      one_done rs old new Outside (Some Tick) (Ticked fates ∷ []) (line_text (codes "tick " ++ decimal tick) ++ fates_text fates) was written_now opens written refl
      (λ done is. (
        record {
          fates = fates;
          deed = refl;
          told = ap (λ n. line_text (codes "tick " ++ decimal n) ++ fates_text fates) (told ∙ number ∙ ap (λ n. n + 1) (sym (counted done is)));
        },
        does done is,
      ))
    where
      counted : (done : List DeedData) → IsOf done old → ticks_in done ≡ ticks_of old
      counted done is = ap length is.fates ∙ length-map old.keeper.chronicle.ticks (λ (tick : TickData). tick.fates)

  -- a command
  pub command_done : (name : List ℕ) (cmd : Cmd) (number : ℕ) (answer : Result Reply Refusal) → number_from 0 (names_of old) name ≡ Some number
      → Does old (Called (record { seat = record { number = number; name = name }; cmd = cmd; answer = answer })) new
      → Appends was written_now (line_text (answer_text answer)) → HasDone rs old new Outside (Some (Act name cmd) ∷ []) was written_now
  command_done name cmd number answer found does written =
      one_done rs old new Outside (Some (Act name cmd)) (Called (record { seat = record { number = number; name = name }; cmd = cmd; answer = answer }) ∷ []) (line_text (answer_text answer))
      was written_now opens written (ap is_some found)
      (λ done is. (record { number = number; seat = found; answer = answer; deed = refl; told = refl }, does done is))

  -- a question
  pub explain_done : (name : List ℕ) (action : Action) (p : Pos) (answer : Verdict) (count : ℕ) → is_named (names_of old) name ≡ true → new ≡ old
      → answer ≡ verdict (after rs old.edits) (Named name) action p → count ≡ length old.edits
      → Appends was written_now (line_text (explained_text answer count)) → HasDone rs old new Outside (Some (Explain name action p) ∷ []) was written_now
  explain_done name action p answer count found same told counted written =
      one_done rs old new Outside (Some (Explain name action p)) [] (line_text (explained_text answer count)) was written_now opens written found
      (λ done is. ((refl, explained done is.edits), same_deeds same done is))
    where
      explained : (done : List DeedData) → old.edits ≡ edits_in done
          → line_text (explained_text answer count) ≡ line_text (explained_text (verdict (policy_after rs done) (Named name) action p) (length (edits_in done)))
      explained done edits = λ i. line_text (explained_text ((told ∙ ap (λ es. verdict (after rs es) (Named name) action p) edits) i) ((counted ∙ ap length edits) i))

-- a name that is found in a list stands there
pub named_there : (k : ℕ) (names : List (List ℕ)) (name : List ℕ) (number : ℕ) → number_from k names name ≡ Some number
    → (i : ℕ) × (number ≡ k + i) × IsSeatOf names (record { number = i; name = name })
named_there k [] name number found = cc
named_there k (n ∷ ns) name number found = by (bytes_eq n name) refl (λ at. named_there (k + 1) ns name number at) found
  where
    by : (b : Bool) → bytes_eq n name ≡ b → (number_from (k + 1) ns name ≡ Some number → (i : ℕ) × (number ≡ k + 1 + i) × IsSeatOf ns (record { number = i; name = name }))
        → (if b then Some k else number_from (k + 1) ns name) ≡ Some number → (i : ℕ) × (number ≡ k + i) × IsSeatOf (n ∷ ns) (record { number = i; name = name })
    by true same later at = let here : k ≡ number = cc in (0, omega (arith, here), ap Some ((bytes_eq-Decides n name).0 same))
    by false other later at = let rest = later at in (suc rest.0, omega (arith, rest.1), rest.2)

-- so it is with the number that it was found at
pub seated : (names : List (List ℕ)) (name : List ℕ) (number : ℕ) → number_from 0 names name ≡ Some number → IsSeatOf names (record { number = number; name = name })
seated names name number found =
    let there = named_there 0 names name number found in
    let same : there.0 ≡ number = omega (arith, there.1) in
    subst (λ i. IsSeatOf names (record { number = i; name = name })) same there.2
