use Rattle.std.proofs.Common.{sym}
use Rattle.vx_section.proofs.Digits.{wide_section, narrow_section}
use Rattle.vx_section.proofs.sections.section_at.Goals as goal

pub returns-then-wide-clause-value : goal.returns-then-wide-clause-value
returns-then-wide-clause-value c = rw c.if-wide.true (sym (wide_section c.args.column c.args.layer c.args.row))

pub returns-else-wide-clause-value : goal.returns-else-wide-clause-value
returns-else-wide-clause-value c = rw c.if-wide.false (sym (narrow_section c.args.column c.args.layer c.args.row))
