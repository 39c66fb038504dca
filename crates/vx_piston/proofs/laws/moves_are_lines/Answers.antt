use Rattle.vx_piston.proofs.MoveLaws.{in_line, once}
use Rattle.vx_piston.proofs.laws.moves_are_lines.Goals as goal

pub returns-clause-steps : goal.returns-clause-steps
returns-clause-steps c = in_line

pub returns-clause-once : goal.returns-clause-once
returns-clause-once c = once
