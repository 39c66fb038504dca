use Rattle.vx_sector.proofs.ActingLemmas.{one_place_changes}
use Rattle.vx_sector.proofs.laws.one_place_changes.Goals as goal

pub returns : goal.returns
returns c = one_place_changes
