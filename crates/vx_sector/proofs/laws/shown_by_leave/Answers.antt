use Rattle.vx_sector.proofs.ActingLemmas.{shown_by_leave}
use Rattle.vx_sector.proofs.laws.shown_by_leave.Goals as goal

pub returns : goal.returns
returns c = shown_by_leave
