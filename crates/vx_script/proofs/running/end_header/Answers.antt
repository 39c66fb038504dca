use Rattle.std.proofs.Common.{◌≡◌, ◌+◌, ℕ, List, true, false, None, Some, sym, ◌∙◌}
use Rattle.std.proofs.KnownBytes.{Keeps-refl}
use Rattle.std.proofs.lemmas.Result.{on_ok_weaker}
use Rattle.vx_script.specs.Headers.{is_peopled}
use Rattle.vx_script.specs.Transcript.{WroteBare}
use Rattle.vx_script.proofs.Going.{if_known, of_known}
use Rattle.vx_script.proofs.Written.{peopled, unpeopled}
use Rattle.vx_script.proofs.running.end_header.Goals as goal

pub returns-then-not-is_peopled-clause-ok : goal.returns-then-not-is_peopled-clause-ok
returns-then-not-is_peopled-clause-ok g c =
    let a = g.W.Write.contents c.args.writer.now in
    let n = c.args.lines.now.number + 1 in
    let empty : is_peopled c.args.header ≡ false = sym c.is_peopled.ensures ∙ c.if-not-is_peopled.true in
    let Wrote : List ℕ → Type 0 = λ rest. WroteBare c.args.policy c.args.json c.args.header n None a a in
    of_known _ Wrote (λ rest. unpeopled c.args.policy c.args.json c.args.header n a a empty (Keeps-refl a))

pub returns-clause-ok : goal.returns-clause-ok
returns-clause-ok g c =
    let a = g.W.Write.contents c.args.writer.now in
    let b = g.W.Write.contents c.begin.new.writer in
    let there : is_peopled c.args.header ≡ true = sym c.is_peopled.ensures ∙ c.if-not-is_peopled.false in
    let Wrote : List ℕ → Type 0 = λ rest. WroteBare c.args.policy c.args.json c.args.header (c.args.lines.now.number + 1) None a b in
    on_ok_weaker c.begin.result
    (λ known. if_known _ _ Wrote known (λ rest wrote. peopled c.args.policy c.args.json c.args.header (c.args.lines.now.number + 1) None a b there (rw c.number-number.ensures.value at wrote)))
    c.begin.ensures.ok

pub returns-clause-err : goal.returns-clause-err
returns-clause-err g c =
    let a = g.W.Write.contents c.args.writer.now in
    let b = g.W.Write.contents c.begin.new.writer in
    let there : is_peopled c.args.header ≡ true = sym c.is_peopled.ensures ∙ c.if-not-is_peopled.false in
    λ fault same own.
    let Wrote : List ℕ → Type 0 = λ rest. WroteBare c.args.policy c.args.json c.args.header (c.args.lines.now.number + 1) (Some fault) a b in
    if_known _ _ Wrote (c.begin.ensures.err fault same own)
    (λ rest wrote. peopled c.args.policy c.args.json c.args.header (c.args.lines.now.number + 1) (Some fault) a b there (rw c.number-number.ensures.value at wrote))
