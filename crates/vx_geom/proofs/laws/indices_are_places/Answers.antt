use Rattle.vx_geom.proofs.Places.{indices_are_places}
use Rattle.vx_geom.proofs.laws.indices_are_places.Goals as goal

pub returns : goal.returns
returns c = indices_are_places
