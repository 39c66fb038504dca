use Rattle.std.proofs.Common.{List, ℕ, Some, option_map}
use Rattle.vx_grammar.specs.ScriptLines.{said}
use Rattle.vx_script.specs.Transcript.{WroteWorld, body_lines}
use Rattle.vx_script.proofs.Going.{if_known}
use Rattle.vx_script.proofs.Written.{in_world}
use Rattle.vx_script.proofs.running.begin.Goals as goal

pub returns-clause-err : goal.returns-clause-err
returns-clause-err g c =
    let a = g.W.Write.contents c.args.writer.now in
    let b = g.W.Write.contents c.play.new.writer in
    λ fault same own.
    let Wrote : List ℕ → Type 0 = λ rest. WroteWorld c.args.policy c.args.json c.args.header c.args.number (body_lines (option_map said c.args.first) rest) (Some fault) a b in
    if_known _ _ Wrote (c.play.ensures.err fault same own)
    (λ rest wrote. in_world c.args.policy c.args.json c.args.header c.args.number (body_lines (option_map said c.args.first) rest) (Some fault) a b c.in_ok-opening.opening c.in_ok-opening.ensures.ok wrote)
