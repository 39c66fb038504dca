use Rattle.std.specs.Prelude.{ℕ, List}
use Rattle.vx_name.specs.declared.id.Id.{Id}
use Rattle.vx_region.specs.ChildCounts.{Count}
use Rattle.vx_region.specs.Forest.{IsForest}
use Rattle.vx_region.specs.IdIndex.{HaveOwnIds, NoneIsGlobal, Indexes}
use Rattle.vx_region.specs.Regions.{Regions}

-- what holds of every set of regions, of the index of their ids, and of the counts of children
pub record IsSound (rs : Regions) (index counts : List (Id × ℕ)) : Type 0 where
  pub forest : IsForest rs
  pub own_ids : HaveOwnIds rs.entries
  pub none_global : NoneIsGlobal rs.entries
  pub indexed : Indexes index rs.entries
  pub counted : Count counts rs.entries rs.entries
