-- What holds of regions before and after a change that is made where a value is there.
use Rattle.std.proofs.Common.{Option, Some, None}
use Rattle.vx_region.specs.Regions.{Regions}
use Rattle.vx_policy.specs.Edits.{given}

-- it holds where each value leaves it so
pub kept_given : {A : Type 0} (P : Regions → Type 0) (rs : Regions) (o : Option A) (change : A → Regions) → P rs → ((x : A) → P (change x)) → P (given rs o change)
kept_given P rs None change now made = now
kept_given P rs (Some x) change now made = made x
