use Rattle.std.proofs.Common.{sym}
use Rattle.vx_section.proofs.Digits.{place_is}
use Rattle.vx_section.proofs.sections.place_at.Goals as goal

pub returns-clause-value : goal.returns-clause-value
returns-clause-value c wide = sym (place_is wide c.args.column c.args.layer c.args.row)
