use Rattle.std.proofs.Common.{◌≡◌, ◌+◌, ℕ, List, None, Some, Ok, Err, ap, sym, ◌∙◌}
use Rattle.std.proofs.lemmas.Result.{err_from_is_err_and, on_ok_weaker}
use Rattle.vx_grammar.specs.ScriptLines.{said}
use Rattle.vx_lines.specs.Reading.{pending}
use Rattle.vx_script.specs.Headers.{Bare, header_end, no_opening, says_of}
use Rattle.vx_script.specs.Transcript.{Wrote, WroteBare}
use Rattle.vx_script.proofs.Going.{both_known, from_start, goes_then, if_known, still_known}
use Rattle.vx_script.proofs.Written.{wrote_bare, wrote_faulty, wrote_world}
use Rattle.vx_script.proofs.running.run_script.Goals as goal

pub returns-in_err-read_header-clause-err : goal.returns-in_err-read_header-clause-err
returns-in_err-read_header-clause-err g c =
    let exit = err_from_is_err_and c.from_residual-in_err-read_header.result c.from_residual-in_err-read_header.ensures.1 in
    let lines = c.in_ok-lines.lines in
    let header = c.new-header.result in
    let known = g.R.Read.remaining c.args.reader.now in
    let a = g.W.Write.contents c.args.writer.now in
    let b = g.W.Write.contents c.read_header.new.writer in
    let start : (script : List ℕ) → header_end no_opening 1 (says_of script) ≡ header_end header (lines.number + 1) (says_of script)
    = λ script. sym (λ i. header_end (c.new-header.ensures i) ((c.in_ok-lines.ensures i).number + 1) (says_of script)) in
    λ fault same own.
    let was : c.read_header.result ≡ Err fault = cc (exit.1, exit.2, same, c.in_err-read_header.was) in
    let err = c.read_header.ensures.err fault was own in
    let Written : List ℕ → Type 0 = λ script. Wrote c.args.policy c.args.json script (Some fault) a b in
    from_start lines known Written c.in_ok-lines.ensures
    (if_known _ _ Written err.1 (λ script is. wrote_faulty c.args.policy c.args.json script a b b fault (start script ∙ is) err.0))

pub returns-in-None-clause-ok : goal.returns-in-None-clause-ok
returns-in-None-clause-ok g c =
    let lines = c.in_ok-lines.lines in
    let header = c.new-header.result in
    let last = c.read_header.new.header in
    let left = c.read_header.new.lines in
    let known = g.R.Read.remaining c.args.reader.now in
    let a = g.W.Write.contents c.args.writer.now in
    let b = g.W.Write.contents c.read_header.new.writer in
    let e = g.W.Write.contents c.end_header.new.writer in
    let start : (script : List ℕ) → header_end no_opening 1 (says_of script) ≡ header_end header (lines.number + 1) (says_of script)
    = λ script. sym (λ i. header_end (c.new-header.ensures i) ((c.in_ok-lines.ensures i).number + 1) (says_of script)) in
    let Ends : List ℕ → Type 0 = λ script. header_end header (lines.number + 1) (says_of script) ≡ Bare last (left.number + 1) in
    let Told : Type 0 = WroteBare c.args.policy c.args.json last (left.number + 1) None b e in
    let Written : List ℕ → Type 0 = λ script. Wrote c.args.policy c.args.json script None a e in
    let ended = from_start lines known Ends c.in_ok-lines.ensures (c.in_ok-read_header.ensures.ended (ap Ok c.in-None.is)) in
    on_ok_weaker c.end_header.result
    (λ told. both_known known Ends (λ script. Told) Written ended (still_known known _ (pending left) _ Told c.in_ok-read_header.ensures.size told)
    (λ script is bare. wrote_bare c.args.policy c.args.json script a b e None last (left.number + 1) (start script ∙ is) c.in_ok-read_header.ensures.written bare))
    c.end_header.ensures.ok

pub returns-in-None-clause-err : goal.returns-in-None-clause-err
returns-in-None-clause-err g c =
    let lines = c.in_ok-lines.lines in
    let header = c.new-header.result in
    let last = c.read_header.new.header in
    let left = c.read_header.new.lines in
    let known = g.R.Read.remaining c.args.reader.now in
    let a = g.W.Write.contents c.args.writer.now in
    let b = g.W.Write.contents c.read_header.new.writer in
    let e = g.W.Write.contents c.end_header.new.writer in
    let start : (script : List ℕ) → header_end no_opening 1 (says_of script) ≡ header_end header (lines.number + 1) (says_of script)
    = λ script. sym (λ i. header_end (c.new-header.ensures i) ((c.in_ok-lines.ensures i).number + 1) (says_of script)) in
    let Ends : List ℕ → Type 0 = λ script. header_end header (lines.number + 1) (says_of script) ≡ Bare last (left.number + 1) in
    let ended = from_start lines known Ends c.in_ok-lines.ensures (c.in_ok-read_header.ensures.ended (ap Ok c.in-None.is)) in
    λ fault same own.
    let Told : Type 0 = WroteBare c.args.policy c.args.json last (left.number + 1) (Some fault) b e in
    let Written : List ℕ → Type 0 = λ script. Wrote c.args.policy c.args.json script (Some fault) a e in
    both_known known Ends (λ script. Told) Written ended (still_known known _ (pending left) _ Told c.in_ok-read_header.ensures.size (c.end_header.ensures.err fault same own))
    (λ script is bare. wrote_bare c.args.policy c.args.json script a b e (Some fault) last (left.number + 1) (start script ∙ is) c.in_ok-read_header.ensures.written bare)

pub returns-clause-ok : goal.returns-clause-ok
returns-clause-ok g c =
    let lines = c.in_ok-lines.lines in
    let header = c.new-header.result in
    let last = c.read_header.new.header in
    let known = g.R.Read.remaining c.args.reader.now in
    let a = g.W.Write.contents c.args.writer.now in
    let b = g.W.Write.contents c.read_header.new.writer in
    let e = g.W.Write.contents c.begin.new.writer in
    let start : (script : List ℕ) → header_end no_opening 1 (says_of script) ≡ header_end header (lines.number + 1) (says_of script)
    = λ script. sym (λ i. header_end (c.new-header.ensures i) ((c.in_ok-lines.ensures i).number + 1) (says_of script)) in
    let Written : List ℕ → Type 0 = λ script. Wrote c.args.policy c.args.json script None a e in
    on_ok_weaker c.begin.result
    (λ told. from_start lines known Written c.in_ok-lines.ensures
    (goes_then _ _ _ _ Written (rw c.in-Some.is at c.in_ok-read_header.ensures.first) (rw c.number-number.ensures.value at told)
    (λ script rest is world. wrote_world c.args.policy c.args.json script a b e None last c.read_header.new.lines.number (said c.in-Some.first) (says_of rest) (start script ∙ is)
    c.in_ok-read_header.ensures.written world)))
    c.begin.ensures.ok

pub returns-clause-err : goal.returns-clause-err
returns-clause-err g c =
    let lines = c.in_ok-lines.lines in
    let header = c.new-header.result in
    let last = c.read_header.new.header in
    let known = g.R.Read.remaining c.args.reader.now in
    let a = g.W.Write.contents c.args.writer.now in
    let b = g.W.Write.contents c.read_header.new.writer in
    let e = g.W.Write.contents c.begin.new.writer in
    let start : (script : List ℕ) → header_end no_opening 1 (says_of script) ≡ header_end header (lines.number + 1) (says_of script)
    = λ script. sym (λ i. header_end (c.new-header.ensures i) ((c.in_ok-lines.ensures i).number + 1) (says_of script)) in
    λ fault same own.
    let Written : List ℕ → Type 0 = λ script. Wrote c.args.policy c.args.json script (Some fault) a e in
    from_start lines known Written c.in_ok-lines.ensures
    (goes_then _ _ _ _ Written (rw c.in-Some.is at c.in_ok-read_header.ensures.first) (rw c.number-number.ensures.value at (c.begin.ensures.err fault same own))
    (λ script rest is world. wrote_world c.args.policy c.args.json script a b e (Some fault) last c.read_header.new.lines.number (said c.in-Some.first) (says_of rest) (start script ∙ is)
    c.in_ok-read_header.ensures.written world))
