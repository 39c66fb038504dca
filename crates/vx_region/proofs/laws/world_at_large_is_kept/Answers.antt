use Rattle.std.proofs.Common.{inl, refl, sym}
use Rattle.vx_region.specs.Regions.{setting_at, with_region, without_region}
use Rattle.vx_region.proofs.FlagChanges.{setting_kept}
use Rattle.vx_region.proofs.laws.world_at_large_is_kept.Goals as goal

pub returns-clause-change : goal.returns-clause-change
unfolding setting_at
returns-clause-change c change rs n f = refl

pub returns-clause-definition : goal.returns-clause-definition
unfolding setting_at with_region
returns-clause-definition c rs id shape f = refl

pub returns-clause-removal : goal.returns-clause-removal
unfolding setting_at without_region
returns-clause-removal c rs n f = refl

pub returns-clause-flag : goal.returns-clause-flag
returns-clause-flag c rs n g o other f = setting_kept rs n 0 g f o (inl (λ same. other (sym same)))
