use Rattle.std.proofs.Common.{◌≡◌, List, ℕ, None, Some, Err, option_map}
use Rattle.std.proofs.lemmas.Result.{err_from_is_err_and, on_ok_weaker}
use Rattle.vx_grammar.specs.ScriptLines.{said}
use Rattle.vx_audit.specs.Audits.{record_in}
use Rattle.vx_session.specs.Sessions.{opening_of}
use Rattle.vx_script.specs.Transcript.{WroteBody, body_lines}
use Rattle.vx_script.proofs.Going.{if_known}
use Rattle.vx_script.proofs.Written.{wrote_game, wrote_front}
use Rattle.vx_script.proofs.playing.play_at.Goals as goal

pub returns-in_err-report-clause-err : goal.returns-in_err-report-clause-err
returns-in_err-report-clause-err g c =
    let exit = err_from_is_err_and c.from_residual.result c.from_residual.ensures.1 in
    let old = c.args.session in
    let now = c.read_body-read.new.session in
    let a = g.W.Write.contents c.args.writer.now in
    let b = g.W.Write.contents c.read_body-read.new.writer in
    λ fault same own.
    let was : c.settle.result ≡ Err fault = cc (exit.1, exit.2, same, c.in_err-report.was) in
    let settled = c.settle.ensures.err fault was own in
    let Wrote : List ℕ → Type 0 = λ rest. WroteBody (opening_of old) c.args.json c.args.number (body_lines (option_map said c.args.first) rest) (Some fault) a b in
    if_known _ _ Wrote (c.read_body-read.ensures.stopped fault settled.0 own)
    (λ rest stop. wrote_front g.A.Naming.first old now c.args.json c.args.number (body_lines (option_map said c.args.first) rest) c.requires.first c.requires.nothing fault a b stop settled.1)

pub returns-clause-ok : goal.returns-clause-ok
returns-clause-ok g c =
    let old = c.args.session in
    let now = c.read_body-read.new.session in
    let a = g.W.Write.contents c.args.writer.now in
    let b = g.W.Write.contents c.read_body-read.new.writer in
    let e = g.W.Write.contents c.write_end-written.new.writer in
    let ended = c.in_ok-report.ensures.ended in
    let r = record_in c.in_ok-report.report.chronicle c.in_ok-report.report.windows.items c.in_ok-report.report.version in
    let Wrote : List ℕ → Type 0 = λ rest. WroteBody (opening_of old) c.args.json c.args.number (body_lines (option_map said c.args.first) rest) None a e in
    on_ok_weaker c.write_end-written.result
    (λ written. if_known _ _ Wrote (rw ended.0 at c.read_body-read.ensures.done)
    (λ rest done. wrote_game g.A.Naming.first old now c.args.json c.args.number (body_lines (option_map said c.args.first) rest) c.requires.first c.requires.nothing r a b e done ended.1 written))
    c.write_end-written.ensures.ok
