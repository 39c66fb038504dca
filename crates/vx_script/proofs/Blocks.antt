-- What the lines of a block do in a session, and what is replied to them.
use Rattle.std.proofs.Common.{◌≡◌, ℕ, ◌+◌, ◌<◌, true, List, [], ◌∷◌, ◌++◌, length, take, get_or, Option, Some, Result, refl, sym, ap, ◌∙◌, subst, append_assoc, append-nil, arith}
use Rattle.std.specs.Io.KnownBytes.{Appends}
use Rattle.std.specs.List.{All}
use Rattle.std.proofs.lemmas.List.{take_more}
use Rattle.std.proofs.lemmas.List.Elements.{All-cons, All-head, All-nil, All-tail}
use Rattle.std.proofs.lemmas.Option.{slice_get-get_or}
use Rattle.vx_region.specs.Regions.{Regions}
use Rattle.vx_sector.specs.SectorData.{EntryData}
use Rattle.vx_sector.specs.declared.cmd.Cmd.{Cmd}
use Rattle.vx_sector.specs.declared.reply.Reply.{Reply}
use Rattle.vx_sector.specs.declared.refusal.Refusal.{Refusal}
use Rattle.vx_record.specs.Chronicles.{IsSeatOf}
use Rattle.vx_audit.specs.Deeds.{DeedData}
use Rattle.vx_audit.specs.Deeds as deeds
use Rattle.vx_session.specs.Blocks.{AreMade}
use Rattle.vx_session.specs.Sessions.{SessionData, IsOf, Does, opening_of, names_of}
use Rattle.vx_session.specs.declared.request.Request.{Request}
use Rattle.vx_grammar.specs.ScriptLines.{Said, Nothing, Act, End}
use Rattle.vx_json.specs.Texts.{line_text, answer_text}
use Rattle.vx_script.specs.Replies.{RepliesInside, answers_text}
use Rattle.vx_script.specs.Sessions.{HasDone}
use Rattle.vx_script.specs.Stages.{Inside, stands_inside}
use Rattle.vx_script.proofs.Doing.{one_done}

abbrev Answer : Type 0
Answer = Result Reply Refusal

one_behind : (answers : List Answer) (last : Answer) → answers_text (answers ++ last ∷ []) ≡ answers_text answers ++ line_text (answer_text last)
one_behind [] last = append-nil (line_text (answer_text last))
one_behind (answer ∷ answers) last =
    ap (λ text. line_text (answer_text answer) ++ text) (one_behind answers last)
    ∙ sym (append_assoc (line_text (answer_text answer)) (answers_text answers) (line_text (answer_text last)))

-- the lines of one answer more
pub answers_more : (answers : List Answer) (i : ℕ) (x : Answer) → i < length answers → x ≡ get_or answers i x
    → answers_text (take (i + 1) answers) ≡ answers_text (take i answers) ++ line_text (answer_text x)
answers_more answers i x low is =
    ap answers_text (take_more answers i x low) ∙ one_behind (take i answers) (get_or answers i x)
    ∙ ap (λ answer. answers_text (take i answers) ++ line_text (answer_text answer)) (sym is)

-- the call of a request, with its answer
abbrev call_made : List (List ℕ) → Request → Answer → EntryData
call_made names request answer = record {
  seat = record { number = request.seat; name = get_or names request.seat [] };
  cmd = request.cmd;
  answer = answer;
}

-- those of requests and their answers
abbrev calls_made : List (List ℕ) → List Request → List Answer → List EntryData
calls_made names [] answers = []
calls_made names (request ∷ requests) [] = []
calls_made names (request ∷ requests) (answer ∷ answers) = call_made names request answer ∷ calls_made names requests answers

are_made : (names : List (List ℕ)) (requests : List Request) (answers : List Answer) → length answers ≡ length requests
    → All (λ (request : Request). request.seat < length names) requests → AreMade names requests answers (calls_made names requests answers)
are_made names [] [] each there = record { asked = refl; answered = refl; seated = All-nil (λ (call : EntryData). IsSeatOf names call.seat) }
are_made names [] (answer ∷ answers) each there = absurd (omega (arith, each))
are_made names (request ∷ requests) [] each there = absurd (omega (arith, each))
are_made names (request ∷ requests) (answer ∷ answers) each there =
    let rest = are_made names requests answers (omega (arith, each)) (All-tail (λ (r : Request). r.seat < length names) request requests there) in
    record {
      asked = ap (λ rs. request ∷ rs) rest.asked;
      answered = ap (λ told. answer ∷ told) rest.answered;
      seated = All-cons (λ (call : EntryData). IsSeatOf names call.seat) (call_made names request answer) (calls_made names requests answers)
          (slice_get-get_or names request.seat [] (All-head (λ (r : Request). r.seat < length names) request requests there)) rest.seated;
    }

-- a block is done
pub block_done : (rs : Regions) (old new : SessionData) (requests : List Request) (answers : List Answer) (before after : Option (List ℕ)) → opening_of new ≡ opening_of old
    → length answers ≡ length requests → All (λ (request : Request). request.seat < length (names_of old)) requests
    → ((calls : List EntryData) → AreMade (names_of old) requests answers calls → Does old (deeds.Together calls) new)
    → Appends before after (answers_text answers) → HasDone rs old new (Inside requests) (Some End ∷ []) before after
block_done rs old new requests answers before after opens each there does written =
    one_done rs old new (Inside requests) (Some End) (deeds.Together calls ∷ []) (answers_text answers) before after opens written refl
    (λ done is. (
      record { calls = calls; seated = made.seated; asked_for = made.asked; deed = refl; told = ap answers_text (sym made.answered) },
      does calls made done is,
    ))
  where
    calls : List EntryData
    calls = calls_made (names_of old) requests answers

    made : AreMade (names_of old) requests answers calls
    made = are_made (names_of old) requests answers each there

-- a line of a block that does nothing yet
waits : (rs : Regions) (s : SessionData) (requests : List Request) (line : Option Said) (before after : Option (List ℕ)) → Appends before after []
    → RepliesInside (names_of s) requests line [] [] → stands_inside (names_of s) requests line ≡ true
    → HasDone rs s s (Inside requests) (line ∷ []) before after
waits rs s requests line before after written replies stands =
    one_done rs s s (Inside requests) line [] [] before after refl written stands
    (λ done is. (replies, subst (λ d. IsOf d s) (sym (append-nil done)) is))

-- a blank line of a block
pub skipped : (rs : Regions) (s : SessionData) (requests : List Request) (before after : Option (List ℕ)) → Appends before after []
    → HasDone rs s s (Inside requests) (Some Nothing ∷ []) before after
skipped rs s requests before after written = waits rs s requests (Some Nothing) before after written (refl, refl) refl

-- a command that a block asks for
pub asked_more : (rs : Regions) (s : SessionData) (requests : List Request) (name : List ℕ) (cmd : Cmd) (before after : Option (List ℕ)) → Appends before after []
    → stands_inside (names_of s) requests (Some (Act name cmd)) ≡ true → HasDone rs s s (Inside requests) (Some (Act name cmd) ∷ []) before after
asked_more rs s requests name cmd before after written stands = waits rs s requests (Some (Act name cmd)) before after written (refl, refl) stands
