use Rattle.vx_geom.proofs.SectorLemmas.{held_at, in_sector, sector_from}
use Rattle.vx_geom.proofs.laws.sectors_divide.Goals as goal

pub returns : goal.returns
returns c = λ v p k sizes. (λ same. in_sector v p k sizes (held_at v p k sizes same), λ box. sector_from v p k sizes box.0 box.1)
