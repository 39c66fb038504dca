use Rattle.std.proofs.Common.{◌≡◌, List, ℕ, Some, Err}
use Rattle.std.proofs.lemmas.Result.{err_from_is_err_and}
use Rattle.vx_script.specs.Transcript.{Wrote}
use Rattle.vx_script.proofs.Going.{if_known}
use Rattle.vx_script.proofs.Written.{wrote_kept}
use Rattle.vx_script.proofs.running.run.Goals as goal

pub returns-in_err-played-clause-err : goal.returns-in_err-played-clause-err
returns-in_err-played-clause-err g c =
    let exit = err_from_is_err_and c.from_residual.result c.from_residual.ensures.1 in
    let a = g.W.Write.contents c.args.writer.now in
    let b = g.W.Write.contents c.run_script-played.new.writer in
    let e = g.W.Write.contents c.flush-flushed.new.self in
    λ fault same own.
    let was : c.run_script-played.result ≡ Err fault = cc (exit.1, exit.2, same, c.in_err-played.was) in
    let Written : List ℕ → Type 0 = λ script. Wrote c.args.policy c.args.json script (Some fault) a e in
    if_known _ _ Written (c.run_script-played.ensures.err fault was own)
    (λ script wrote. wrote_kept c.args.policy c.args.json script a b e (Some fault) wrote c.flush-flushed.ensures.bytes)
