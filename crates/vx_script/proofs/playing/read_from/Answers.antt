use Rattle.std.proofs.Common.{◌≡◌, ℕ, ◌+◌, false, List, [], ◌∷◌, Some, Err, refl, sym, subst, arith}
use Rattle.std.proofs.lemmas.Result.{err_from_is_err_and, on_ok_weaker}
use Rattle.vx_grammar.specs.ScriptLines.{said}
use Rattle.vx_record.specs.Openings.{OpeningData}
use Rattle.vx_session.specs.Sessions.{SessionData, names_of}
use Rattle.vx_script.specs.Headers.{says_of}
use Rattle.vx_script.specs.Sessions.{HasDone, HasEnded, StoppedAt}
use Rattle.vx_script.specs.Stages.{Stage, Outside, is_inside, may_stand, stage_after, stage_behind}
use Rattle.vx_script.proofs.Doing.{none_done, then_done, stops_after, stops_then}
use Rattle.vx_script.proofs.Going.{if_known, of_known}
use Rattle.vx_script.proofs.playing.read_from.Goals as goal

pub returns-in_err-stage-clause-stopped : goal.returns-in_err-stage-clause-stopped
returns-in_err-stage-clause-stopped g c =
    let exit = err_from_is_err_and c.from_residual.result c.from_residual.ensures.1 in
    let rs = g.A.Naming.first in
    let start = c.args.session.now in
    let now = c.take_line.new.session in
    let n = c.args.lines.now.number in
    let old = g.W.Write.contents c.args.writer.now in
    let new = g.W.Write.contents c.take_line.new.writer in
    λ fault same own.
    let was : c.take_line.result ≡ Err fault = cc (exit.1, exit.2, same, c.in_err-stage.was) in
    let stop = c.take_line.ensures.stopped fault was own in
    let none : c.number.result ≡ n + 0 = omega (arith, c.number.ensures.value) in
    let done : HasDone rs start now Outside [] old new = subst (λ s. HasDone rs start s Outside [] old new) (sym stop.2) (none_done rs start Outside old new stop.3) in
    of_known _ _
    (λ rest. stops_after rs start now Outside n c.number.result [] (Some (said c.args.first) ∷ says_of rest) (Some (said c.args.first)) (says_of rest) old new fault
    done refl stop.0 none (subst (λ (s : SessionData). may_stand (names_of s) Outside (Some (said c.args.first)) ≡ false) (sym stop.2) stop.1))

pub returns-clause-done : goal.returns-clause-done
returns-clause-done g c =
    let rs = g.A.Naming.first in
    let start = c.args.session.now in
    let mid = c.take_line.new.session in
    let now = c.read_lines.new.session in
    let old = g.W.Write.contents c.args.writer.now in
    let read = g.W.Write.contents c.take_line.new.writer in
    let new = g.W.Write.contents c.read_lines.new.writer in
    let first = Some (said c.args.first) in
    let All : List ℕ → Type 0 = λ rest. HasEnded rs start now Outside (first ∷ says_of rest) old new in
    let after : Stage = stage_after (names_of start) Outside first in
    let opens = c.in_ok-stage.ensures.done.opening in
    on_ok_weaker c.read_lines.result
    (λ known. if_known _ _ All known (λ rest rest_done.
    let ended : HasEnded rs mid now after (says_of rest) read new =
    subst (λ stage. HasEnded rs mid now stage (says_of rest) read new) c.in_ok-stage.ensures.stage rest_done in
    record {
      done = then_done rs start mid now Outside (first ∷ []) (says_of rest) old read new c.in_ok-stage.ensures.done ended.done;
      closed = subst (λ (o : OpeningData). is_inside (stage_behind o.names after (says_of rest)) ≡ false) opens ended.closed;
    }))
    c.read_lines.ensures.done

pub returns-clause-stopped : goal.returns-clause-stopped
returns-clause-stopped g c =
    let rs = g.A.Naming.first in
    let start = c.args.session.now in
    let mid = c.take_line.new.session in
    let now = c.read_lines.new.session in
    let n = c.args.lines.now.number in
    let old = g.W.Write.contents c.args.writer.now in
    let read = g.W.Write.contents c.take_line.new.writer in
    let new = g.W.Write.contents c.read_lines.new.writer in
    let first = Some (said c.args.first) in
    λ fault same own.
    let Stopped : List ℕ → Type 0 = λ rest. StoppedAt rs start now Outside n (first ∷ says_of rest) old new fault in
    if_known _ _ Stopped (c.read_lines.ensures.stopped fault same own)
    (λ rest stop. stops_then rs start mid now Outside n (n + 1) first (says_of rest) old read new fault c.in_ok-stage.ensures.done
    (subst (λ stage. StoppedAt rs mid now stage (n + 1) (says_of rest) read new fault) c.in_ok-stage.ensures.stage stop) refl)
