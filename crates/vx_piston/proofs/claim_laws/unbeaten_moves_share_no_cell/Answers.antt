use Rattle.vx_piston.proofs.Apart.{later_is_beaten, unbeaten_is_first, unbeaten_are_apart}
use Rattle.vx_piston.proofs.claim_laws.unbeaten_moves_share_no_cell.Goals as goal

pub returns-clause-later : goal.returns-clause-later
returns-clause-later c = later_is_beaten

pub returns-clause-first : goal.returns-clause-first
returns-clause-first c = unbeaten_is_first

pub returns-clause-apart : goal.returns-clause-apart
returns-clause-apart c = unbeaten_are_apart
