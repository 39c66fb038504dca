use Rattle.std.proofs.Common.{◌≡◌, ℕ, List, map, ◌+◌, Ok, Err, ap, sym, ◌∙◌, subst}
use Rattle.std.proofs.KnownBytes.{Keeps-trans}
use Rattle.std.specs.Io.KnownBytes.{prepend_known}
use Rattle.std.proofs.lemmas.Result.{err_from_is_err_and}
use Rattle.vx_grammar.specs.ScriptLines.{said}
use Rattle.vx_grammar.specs.declared.line.Line.{Line}
use Rattle.vx_lines.specs.Reading.{pending}
use Rattle.vx_script.specs.Headers.{Begins, Faulty, header_end, most_bytes, read_of, says_of}
use Rattle.vx_script.specs.Known.{Goes}
use Rattle.vx_script.proofs.Going.{goes_on, goes_out, goes_long, if_known}
use Rattle.vx_script.proofs.Runs.{says_more, header_long, header_stop, header_first}
use Rattle.vx_script.proofs.running.read_header.Goals as goal

pub returns-in_err-next_line-clause-err : goal.returns-in_err-next_line-clause-err
returns-in_err-next_line-clause-err g c =
    let exit = err_from_is_err_and c.from_residual.result c.from_residual.ensures.1 in
    let header = c.header_lines.header in
    let n = c.header_lines.lines.number in
    λ fault same own.
    let was : c.next_line.result ≡ Err fault = cc (exit.1, exit.2, same, c.in_err-next_line.was) in
    let long = c.next_line.ensures.long fault was own in
    let Ends : List ℕ → Type 0 = λ all. header_end c.args.header.now (c.args.lines.now.number + 1) (says_of all) ≡ Faulty fault in (
      Keeps-trans _ _ _ c.header_lines.invariant.written long.1,
      goes_long _ _ _ most_bytes Ends c.header_lines.invariant.same long.2
          (λ all rest line lines first big runs. runs
          ∙ ap (λ ls. header_end header (n + 1) (map read_of ls)) first
          ∙ header_long header (n + 1) line (map read_of lines) big
          ∙ ap Faulty (sym long.0)),
    )

pub returns-in_err-first-clause-err : goal.returns-in_err-first-clause-err
returns-in_err-first-clause-err g c =
    let exit = err_from_is_err_and c.from_residual-in_err-first.result c.from_residual-in_err-first.ensures.1 in
    let header = c.header_lines.header in
    let n = c.next_line.new.lines.number in
    let next = c.in_ok-next_line.ensures in
    let taken = ap Ok c.if-branch.true in
    λ fault same own.
    let was : c.take_line.result ≡ Err fault = cc (exit.1, exit.2, same, c.in_err-first.was) in
    let Ends : List ℕ → Type 0 = λ all. header_end c.args.header.now (c.args.lines.now.number + 1) (says_of all) ≡ Faulty fault in (
      Keeps-trans _ _ _ c.header_lines.invariant.written next.written,
      goes_out _ _ _ _ _ Ends c.header_lines.invariant.same (next.line taken)
          (λ all rest more first runs. subst (λ m. header_end c.args.header.now (c.args.lines.now.number + 1) (says_of all) ≡ header_end header m (says_of rest)) (sym (next.number taken)) runs
          ∙ ap (header_end header n) (says_more rest more _ first)
          ∙ header_stop header n _ (says_of more) _ c.number.result c.number.ensures.value (rw c.line.ensures at c.in_ok-line.ensures.ok) fault (c.take_line.ensures.err fault was own)),
    )

pub returns-then-is_some-clause-first : goal.returns-then-is_some-clause-first
returns-then-is_some-clause-first g c =
    let header = c.header_lines.header in
    let n = c.next_line.new.lines.number in
    let next = c.in_ok-next_line.ensures in
    let taken = ap Ok c.if-branch.true in
    let BeginsSo : Line → Type 0 = λ command. Goes (prepend_known (pending c.args.lines.now) (g.R.Read.remaining c.args.reader.now))
    (prepend_known (pending c.next_line.new.lines) (g.R.Read.remaining c.next_line.new.reader))
    (λ bytes rest. header_end c.args.header.now (c.args.lines.now.number + 1) (says_of bytes) ≡ Begins c.take_line.new.self n (said command) (says_of rest))
    in
    if_known _ _ BeginsSo c.in_ok-first.ensures.first
    (λ command facts. goes_on _ _ _ _ _ _ c.header_lines.invariant.same (next.line taken)
    (λ all rest more first runs. subst (λ m. header_end c.args.header.now (c.args.lines.now.number + 1) (says_of all) ≡ header_end header m (says_of rest)) (sym (next.number taken)) runs
    ∙ ap (header_end header n) (says_more rest more _ first)
    ∙ header_first header n _ (says_of more) _ c.number.result c.number.ensures.value (rw c.line.ensures at c.in_ok-line.ensures.ok) (said command) facts.1
    ∙ ap (λ h. Begins h n (said command) (says_of more)) (sym facts.0)))
