use Rattle.vx_region.proofs.IdLemmas.{id_found}
use Rattle.vx_region.proofs.laws.id_finds_its_region.Goals as goal

pub returns : goal.returns
returns c = id_found
