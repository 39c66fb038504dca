use Rattle.std.proofs.Common.{refl, arith, ap, ◌∙◌}
use Rattle.vx_lines.proofs.Taking.{last_line, filled_is}
use Rattle.vx_lines.proofs.lines.Lines.finish.Goals as goal

pub returns-clause-line : goal.returns-clause-line
returns-clause-line c =
    let inside = c.self.inside in
    let none = ap (λ r. r.rest) c.self.view_is ∙ c.requires in
    λ same. rw (← c.self.view_is) (last_line inside.unfinished inside.line.items inside.input.rest c.if-not-self.false c.self.invariant.0 none (omega (arith, inside.line.ok.0, filled_is _ c.if-is_empty.ensures)), refl)
