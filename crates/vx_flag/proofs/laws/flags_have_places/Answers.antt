use Rattle.vx_flag.proofs.Own.{own_place}
use Rattle.vx_flag.proofs.laws.flags_have_places.Goals as goal

pub returns-clause-placed : goal.returns-clause-placed
returns-clause-placed c = own_place
