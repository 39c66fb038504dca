use Rattle.std.proofs.lemmas.Bool.Decides.{Decides-at}
use Rattle.vx_geom.specs.OutlineLaws.{outline_decided}
use Rattle.vx_geom.proofs.shape.Shape.same.Goals as goal

pub returns-clause-decides : goal.returns-clause-decides
returns-clause-decides c =
    rw (← c.self.view_is, ← c.other.view_is) (Decides-at _ _ c.same.ensures (outline_decided _ _))
