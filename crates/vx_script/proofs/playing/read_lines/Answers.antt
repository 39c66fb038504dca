use Rattle.std.proofs.Common.{◌≡◌, ℕ, ◌+◌, true, false, None, List, [], ◌∷◌, ◌++◌, length, map, Option, Ok, Err, IfErr, refl, ap, sym, ◌∙◌, subst, rules, arith, append_assoc, append-nil, length-append, option_map}
use Rattle.std.specs.Io.KnownBytes.{prepend_known}
use Rattle.std.proofs.KnownBytes.{Keeps-refl}
use Rattle.std.proofs.lemmas.Result.{err_from_is_err_and, on_ok_weaker}
use Rattle.vx_grammar.specs.ScriptLines.{Said, said}
use Rattle.vx_lines.specs.Reading.{pending}
use Rattle.vx_record.specs.Openings.{OpeningData}
use Rattle.vx_session.specs.Sessions.{names_of}
use Rattle.vx_script.specs.Headers.{most_bytes, read_of, says_of}
use Rattle.vx_script.specs.Sessions.{HasDone, HasEnded, StoppedAt}
use Rattle.vx_script.specs.declared.fault.Fault.TheVariants.{Syntax}
use Rattle.vx_script.specs.Stages.{AreSeated, Stage, Outside, Inside, is_inside, may_stand, stage_after, stage_behind, stage_in}
use Rattle.vx_script.proofs.Doing.{behind_more, none_done, then_done, kept_done, stops_after, stops_inside}
use Rattle.vx_script.proofs.Going.{goes_self, goes_on, goes_long, goes_to_end}
use Rattle.vx_script.proofs.Runs.{says_more, too_long}
use Rattle.vx_script.proofs.playing.read_lines.Goals as goal

pub body_lines-init : goal.body_lines-init
body_lines-init g c =
    let known = prepend_known (pending c.args.lines.now) (g.R.Read.remaining c.args.reader.now) in
    let n = c.args.lines.now.number in
    let session = c.args.session.now in
    let stage = stage_in c.args.stage in
    let written = g.W.Write.contents c.args.writer.now in
    let Fact : List ℕ → List ℕ → Type 0 = λ bytes rest. (front : List (Option Said)) × (says_of bytes ≡ front ++ says_of rest) × (n ≡ n + length front)
    × (stage ≡ stage_behind (names_of session) stage front)
    × HasDone g.A.Naming.first session session stage front written written
    in
    let Size : List ℕ → List ℕ → Type 0 = λ left rest. c.args.lines.now.bytes + length left ≡ c.args.lines.now.bytes + length rest in
    let none : n ≡ n + 0 = omega arith in
    let begins : (bytes : List ℕ) → Fact bytes bytes = λ bytes. ([], refl, none, refl, none_done g.A.Naming.first session stage written written (Keeps-refl written)) in
    let even : (bytes : List ℕ) → Size bytes bytes = λ bytes. refl in
    record {
      done = goes_self known Fact begins;
      seated = c.requires;
      size = goes_self (g.R.Read.remaining c.args.reader.now) Size even;
    }

pub returns-in_err-next_line-clause-stopped : goal.returns-in_err-next_line-clause-stopped
returns-in_err-next_line-clause-stopped g c =
    let exit = err_from_is_err_and c.from_residual.result c.from_residual.ensures.1 in
    let rs = g.A.Naming.first in
    let start = c.args.session.now in
    let stage = stage_in c.args.stage in
    let now = c.body_lines.session in
    let n = c.args.lines.now.number in
    let old = g.W.Write.contents c.args.writer.now in
    let new = g.W.Write.contents c.next_line.new.writer in
    λ fault same own.
    let was : c.next_line.result ≡ Err fault = cc (exit.1, exit.2, same, c.in_err-next_line.was) in
    let long = c.next_line.ensures.long fault was own in
    let Stopped : List ℕ → Type 0 = λ all. StoppedAt rs start now stage (n + 1) (says_of all) old new fault in
    goes_long _ _ _ most_bytes Stopped c.body_lines.invariant.done long.2
    (λ all rest line lines first big fact.
    let at : Stage = stage_behind (names_of start) stage fact.0 in
    stops_after rs start now stage (n + 1) (c.body_lines.lines.number + 1) fact.0 (says_of all) (read_of line) (map read_of lines) old new fault
    (kept_done rs start now stage fact.0 old _ new fact.4 long.1)
    (fact.1 ∙ ap (λ ls. fact.0 ++ map read_of ls) first) long.0 (omega (arith, fact.2)) (ap (may_stand (names_of now) at) (too_long line big) ∙ none_stands (names_of now) at))
  where
    none_stands : (names : List (List ℕ)) (at : Stage) → may_stand names at None ≡ false
    none_stands names Outside = refl
    none_stands names (Inside asked) = refl

pub body_lines-preserved : goal.body_lines-preserved
body_lines-preserved g c =
    let rs = g.A.Naming.first in
    let start = c.args.session.now in
    let stage = stage_in c.args.stage in
    let now = c.body_lines.session in
    let old = g.W.Write.contents c.args.writer.now in
    let after = c.take_line.new.session in
    let next = c.in_ok-next_line.ensures in
    let taken = ap Ok c.if-branch.true in
    let line = option_map said c.in_ok-line.line in
    let reads = rw c.line.ensures at c.in_ok-line.ensures.ok in
    let did = c.in_ok-stage.ensures in
    let read = g.W.Write.contents c.next_line.new.writer in
    let new = g.W.Write.contents c.take_line.new.writer in
    record {
      done = goes_on _ _ _ _ _ _ c.body_lines.invariant.done (next.line taken)
          (λ all rest more first fact. (
            fact.0 ++ line ∷ [],
            fact.1 ∙ ap (λ ls. fact.0 ++ ls) (says_more rest more _ first ∙ ap (λ said. said ∷ says_of more) (sym reads)) ∙ sym (append_assoc fact.0 (line ∷ []) (says_of more)),
            omega (arith, fact.2, next.number taken, length-append fact.0 (line ∷ [])),
            did.stage
                ∙ (λ i. stage_after (ap (λ (o : OpeningData). o.names) fact.4.opening i) (fact.3 i) line)
                ∙ sym (behind_more (names_of start) stage fact.0 line),
            then_done rs start now after stage fact.0 (line ∷ []) old read new (kept_done rs start now stage fact.0 old _ read fact.4 next.written)
                (subst (λ at. HasDone rs now after at (line ∷ []) read new) fact.3 did.done),
          ));
      seated = subst (λ (o : OpeningData). AreSeated o.names (stage_in c.in_ok-stage.stage)) (sym did.done.opening) did.seated;
      size = search rules;
    }

pub returns-clause-done : goal.returns-clause-done
returns-clause-done g c =
    let rs = g.A.Naming.first in
    let start = c.args.session.now in
    let stage = stage_in c.args.stage in
    let now = c.body_lines.session in
    let old = g.W.Write.contents c.args.writer.now in
    let new = g.W.Write.contents c.next_line.new.writer in
    let next = c.in_ok-next_line.ensures in
    let end = next.end (ap Ok c.if-branch.false) in
    let Done : List ℕ → Type 0 = λ all. HasEnded rs start now stage (says_of all) old new in
    on_ok_weaker c.end_at.result
    (λ closed. goes_to_end _ _ _ Done c.body_lines.invariant.done end.0
    (λ all fact.
    let whole : says_of all ≡ fact.0 = fact.1 ∙ append-nil fact.0 in
    subst (λ ls. HasEnded rs start now stage ls old new) (sym whole)
    (record { done = kept_done rs start now stage fact.0 old _ new fact.4 next.written; closed = ap is_inside (sym fact.3) ∙ closed })))
    c.end_at.ensures.closed

pub returns-clause-stopped : goal.returns-clause-stopped
returns-clause-stopped g c =
    let rs = g.A.Naming.first in
    let start = c.args.session.now in
    let stage = stage_in c.args.stage in
    let now = c.body_lines.session in
    let n = c.args.lines.now.number in
    let old = g.W.Write.contents c.args.writer.now in
    let new = g.W.Write.contents c.next_line.new.writer in
    let next = c.in_ok-next_line.ensures in
    let end = next.end (ap Ok c.if-branch.false) in
    λ fault same own.
    let Stopped : List ℕ → Type 0 = λ all. StoppedAt rs start now stage (n + 1) (says_of all) old new fault in
    let open_one = subst (λ r. IfErr r (λ f. (f ≡ Syntax c.number-2.result) × (is_inside (stage_in c.body_lines.stage) ≡ true))) same c.end_at.ensures.inside in
    goes_to_end _ _ _ Stopped c.body_lines.invariant.done end.0
    (λ all fact.
    stops_inside rs start now stage (n + 1) c.number-2.result fact.0 (says_of all) old new fault
    (kept_done rs start now stage fact.0 old _ new fact.4 next.written)
    (fact.1 ∙ append-nil fact.0) open_one.0 (omega (arith, fact.2, end.1, c.number-2.ensures.value)) (ap is_inside (sym fact.3) ∙ open_one.1))
