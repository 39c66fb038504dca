use Rattle.vx_geom.proofs.SectorLemmas.{held_at, same_index}
use Rattle.vx_geom.proofs.laws.indices_differ.Goals as goal

pub returns : goal.returns
returns c = λ v p q k sizes of_p of_q. same_index v p q k sizes (held_at v p k sizes of_p) (held_at v q k sizes of_q)
