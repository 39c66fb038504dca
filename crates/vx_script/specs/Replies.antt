-- The lines of the body of a script: what each does in the world, and the reply to it.
use Rattle.std.specs.Prelude.{◌≡◌, ℕ, ◌+◌, true, codes, decimal, List, [], ◌∷◌, ◌++◌, length, map, Option, Some, None, Result, Ok, Err}
use Rattle.std.specs.List.{All}
use Rattle.vx_geom.specs.declared.pos.Pos.{Pos}
use Rattle.vx_region.specs.Regions.{Regions}
use Rattle.vx_region.specs.Subjects.{Named}
use Rattle.vx_decide.specs.Texts.{rule_text}
use Rattle.vx_decide.specs.Verdict.{verdict}
use Rattle.vx_decide.specs.declared.verdict.Verdict.{Verdict}
use Rattle.vx_decide.specs.declared.verdict.Verdict.TheVariants.{Permit, Deny}
use Rattle.vx_policy.specs.Asked.{Asked}
use Rattle.vx_policy.specs.Edits.{after, number_given}
use Rattle.vx_policy.specs.Refusals.{refusal}
use Rattle.vx_policy.specs.Texts.{edit_refusal_text}
use Rattle.vx_policy.specs.declared.edit_refusal.EditRefusal.{EditRefusal}
use Rattle.vx_board.specs.Texts.{edit_text, edited_text}
use Rattle.vx_board.specs.declared.edited.Edited as answers
use Rattle.vx_sector.specs.declared.cmd.Cmd.{Cmd}
use Rattle.vx_sector.specs.declared.reply.Reply.{Reply}
use Rattle.vx_sector.specs.declared.refusal.Refusal.{Refusal}
use Rattle.vx_tick.specs.declared.fate.Fate.{Fate}
use Rattle.vx_sector.specs.SectorData.{EntryData}
use Rattle.vx_play.specs.Plays.{number_from}
use Rattle.vx_record.specs.Chronicles.{IsSeatOf}
use Rattle.vx_audit.specs.Deeds as deeds
use Rattle.vx_audit.specs.Deeds.{DeedData, Called, Edited, Ticked, edits_in}
use Rattle.vx_audit.specs.Marks.{fates_among}
use Rattle.vx_grammar.specs.ScriptLines.{Said, Nothing, World, Player, Set, Act, Region, Tick, Explain, Together, End}
use Rattle.vx_session.specs.Blocks.{request_of}
use Rattle.vx_session.specs.declared.request.Request.{Request}
use Rattle.vx_script.specs.Stages.{Stage, Outside, Inside, may_stand, stage_after}
use Rattle.vx_json.specs.Texts.{line_text, answer_text, fate_text}

-- the policy after the edits among these deeds
abbrev pub policy_after : Regions → List DeedData → Regions
policy_after rs done = after rs (edits_in done)

-- how many ticks are among these deeds
abbrev pub ticks_in : List DeedData → ℕ
ticks_in done = length (fates_among done)

-- a command was called from the seat of that name, and this was its answer
pub record IsCalled (names : List (List ℕ)) (name : List ℕ) (cmd : Cmd) (deeds : List DeedData)
    (reply : List ℕ) : Type 0 where
  pub number : ℕ
  pub seat : number_from 0 names name ≡ Some number
  pub answer : Result Reply Refusal
  pub deed : deeds ≡ Called (record {
    seat = record { number = number; name = name };
    cmd = cmd;
    answer = answer;
  }) ∷ []
  pub told : reply ≡ line_text (answer_text answer)

-- what is told of an edit: how many are accepted with it, or why it is refused
abbrev pub edit_answer_text : Result answers.Edited EditRefusal → List ℕ
edit_answer_text (Ok edited) = edited_text edited
edit_answer_text (Err cause) = edit_refusal_text cause

-- an edit is refused for that cause, or, where there is none, accepted
abbrev pub IsJudged : Regions → List DeedData → Asked → Option EditRefusal → List DeedData → List ℕ
    → Type 0
IsJudged rs done e (Some cause) deeds reply =
    (deeds ≡ []) × (reply ≡ line_text (edit_refusal_text cause))
IsJudged rs done e None deeds reply =
    (deeds ≡ Edited e ∷ [])
    × (reply ≡ line_text (edit_text (length (edits_in done) + 1)
    (number_given (policy_after rs done) e)))

-- fates as they are written, a line for each
abbrev pub fates_text : List (Pos × Fate) → List ℕ
fates_text [] = []
fates_text (told ∷ fates) = line_text (fate_text told.0 told.1) ++ fates_text fates

-- a tick was made, and these were its fates
pub record IsTicked (done : List DeedData) (deeds : List DeedData) (reply : List ℕ) : Type 0 where
  pub fates : List (Pos × Fate)
  pub deed : deeds ≡ Ticked fates ∷ []
  pub told : reply
      ≡ line_text (codes "tick " ++ decimal (ticks_in done + 1)) ++ fates_text fates

-- a verdict by so many edits, as it is written
abbrev pub explained_text : Verdict → ℕ → List ℕ
explained_text (Permit rule) count =
    codes "permit " ++ rule_text rule ++ codes " edits " ++ decimal count
explained_text (Deny rule) count =
    codes "deny " ++ rule_text rule ++ codes " edits " ++ decimal count

-- answers as they are written, a line for each
abbrev pub answers_text : List (Result Reply Refusal) → List ℕ
answers_text [] = []
answers_text (answer ∷ answers) = line_text (answer_text answer) ++ answers_text answers

-- what a block asks for was called from its seats at once, and these are the answers, in the order
-- in which it was asked for
pub record AreAnswered (names : List (List ℕ)) (asked : List Request) (done : List DeedData)
    (reply : List ℕ) : Type 0 where
  pub calls : List EntryData
  pub seated : All (λ (call : EntryData). IsSeatOf names call.seat) calls
  pub asked_for : map request_of calls ≡ asked
  pub deed : done ≡ deeds.Together calls ∷ []
  pub told : reply ≡ answers_text (map (λ (call : EntryData). call.answer) calls)

-- a line outside of a block does these deeds, one or none, after those that were done before, and
-- this is the reply to it; by the policy that the world opened with, and its players' names
abbrev pub RepliesOutside : Regions → List (List ℕ) → List DeedData → Option Said → List DeedData
    → List ℕ → Type 0
RepliesOutside rs names done (Some Nothing) now reply = (now ≡ []) × (reply ≡ [])
RepliesOutside rs names done (Some (Act name cmd)) now reply = IsCalled names name cmd now reply
RepliesOutside rs names done (Some (Region e)) now reply =
    IsJudged rs done e (refusal (policy_after rs done) e) now reply
RepliesOutside rs names done (Some Tick) now reply = IsTicked done now reply
RepliesOutside rs names done (Some (Explain name action p)) now reply =
    (now ≡ [])
    × (reply ≡ line_text (explained_text (verdict (policy_after rs done) (Named name) action p)
    (length (edits_in done))))
RepliesOutside rs names done (Some Together) now reply = (now ≡ []) × (reply ≡ [])
RepliesOutside rs names done (Some End) now reply = ⊥
RepliesOutside rs names done (Some (World sizes)) now reply = ⊥
RepliesOutside rs names done (Some (Player name)) now reply = ⊥
RepliesOutside rs names done (Some (Set p part)) now reply = ⊥
RepliesOutside rs names done None now reply = ⊥

-- a line in a block does nothing and has no reply before the block ends; then all of it is called
abbrev pub RepliesInside : List (List ℕ) → List Request → Option Said → List DeedData → List ℕ
    → Type 0
RepliesInside names asked (Some End) now reply = AreAnswered names asked now reply
RepliesInside names asked line now reply = (now ≡ []) × (reply ≡ [])

-- a line at this stage does these deeds, and this is what is replied
abbrev pub Replies : Regions → List (List ℕ) → Stage → List DeedData → Option Said → List DeedData
    → List ℕ → Type 0
Replies rs names Outside done line now reply = RepliesOutside rs names done line now reply
Replies rs names (Inside asked) done line now reply = RepliesInside names asked line now reply

-- one of the lines, which may stand there, and then the others
pub record RepliesTo (rs : Regions) (names : List (List ℕ)) (stage : Stage) (done : List DeedData)
    (line : Option Said) (Others : List DeedData → List DeedData → List ℕ → Type 0)
    (all : List DeedData) (text : List ℕ) : Type 0 where
  pub now : List DeedData
  pub reply : List ℕ
  pub stands : may_stand names stage line ≡ true
  pub replies : Replies rs names stage done line now reply
  pub later : List DeedData
  pub rest : List ℕ
  pub others : Others (done ++ now) later rest
  pub deeds_are : all ≡ now ++ later
  pub text_is : text ≡ reply ++ rest

-- the lines of a body, one after another from this stage on, do these deeds and have these replies
abbrev pub RepliesAll : Regions → List (List ℕ) → Stage → List (Option Said) → List DeedData
    → List DeedData → List ℕ → Type 0
RepliesAll rs names stage [] done all text = (all ≡ []) × (text ≡ [])
RepliesAll rs names stage (line ∷ lines) done all text =
    RepliesTo rs names stage done line
    (RepliesAll rs names (stage_after names stage line) lines) all text
