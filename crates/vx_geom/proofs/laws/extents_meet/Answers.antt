use Rattle.vx_geom.proofs.Columns.{extents_meet}
use Rattle.vx_geom.proofs.laws.extents_meet.Goals as goal

pub returns : goal.returns
returns c = extents_meet
