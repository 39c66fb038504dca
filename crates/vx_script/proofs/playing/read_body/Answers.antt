use Rattle.std.proofs.Common.{◌≡◌, List, ℕ, ◌∷◌, Some, refl, sym, subst, option_map}
use Rattle.std.proofs.KnownBytes.{Keeps-refl}
use Rattle.vx_grammar.specs.ScriptLines.{said}
use Rattle.vx_script.specs.Headers.{says_of}
use Rattle.vx_script.specs.Sessions.{HasEnded, StoppedAt}
use Rattle.vx_script.specs.Stages.{Outside}
use Rattle.vx_script.specs.Transcript.{body_lines}
use Rattle.vx_script.proofs.Doing.{none_done}
use Rattle.vx_script.proofs.Going.{if_known, of_known}
use Rattle.vx_script.proofs.playing.read_body.Goals as goal

pub returns-in-None-clause-done : goal.returns-in-None-clause-done
returns-in-None-clause-done g c =
    let session = c.args.session.now in
    let written = g.W.Write.contents c.args.writer.now in
    let Done : List ℕ → Type 0 = λ rest. HasEnded g.A.Naming.first session session Outside (body_lines (option_map said c.args.first) rest) written written in
    of_known _ Done
    (λ rest. subst (λ first. HasEnded g.A.Naming.first session session Outside (body_lines (option_map said first) rest) written written) (sym c.in-None.is)
    (record { done = none_done g.A.Naming.first session Outside written written (Keeps-refl written); closed = refl }))

pub returns-in-Some-clause-stopped : goal.returns-in-Some-clause-stopped
returns-in-Some-clause-stopped g c =
    let rs = g.A.Naming.first in
    let start = c.args.session.now in
    let now = c.read_from.new.session in
    let old = g.W.Write.contents c.args.writer.now in
    let new = g.W.Write.contents c.read_from.new.writer in
    let number : c.args.number ≡ c.args.lines.now.number = rw c.in-Some.is at c.requires in
    λ fault same own.
    let Stopped : List ℕ → Type 0 = λ rest. StoppedAt rs start now Outside c.args.number (body_lines (option_map said c.args.first) rest) old new fault in
    if_known _ _ Stopped (c.read_from.ensures.stopped fault same own)
    (λ rest stop. subst (λ first. StoppedAt rs start now Outside c.args.number (body_lines (option_map said first) rest) old new fault) (sym c.in-Some.is)
    (subst (λ n. StoppedAt rs start now Outside n (Some (said c.in-Some.first) ∷ says_of rest) old new fault) (sym number) stop))
