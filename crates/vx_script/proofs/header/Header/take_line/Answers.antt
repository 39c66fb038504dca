use Rattle.std.proofs.Common.{Ok, ap, ◌∙◌, option_map}
use Rattle.vx_grammar.specs.ScriptLines.{said}
use Rattle.vx_script.specs.Headers.{header_line}
use Rattle.vx_script.proofs.HeaderLines.{goes_on}
use Rattle.vx_script.proofs.header.Header.take_line.Goals as goal

pub returns-else-not-branch-clause-next : goal.returns-else-not-branch-clause-next
returns-else-not-branch-clause-next c done go first =
    ap (λ line. header_line c.args.self.now c.args.number (option_map said line) go first) c.in-Some.is
    ∙ goes_on c.args.self.now c.take.new.self c.args.number (said c.in-Some.line)
    (c.take.ensures.taken (c.in_ok-take-in-Some.was ∙ ap Ok c.if-not-branch.false)) go first
