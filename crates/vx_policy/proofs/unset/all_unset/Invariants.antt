use Rattle.std.specs.List.{All}
use Rattle.vx_decide.specs.Unset.{IsUnset}
use Rattle.vx_region.specs.Regions.{no_regions}
use Rattle.vx_policy.proofs.unset.all_unset.Given as goal

abbrev pub invariant-loop-flag : goal.invariant-loop-flag
invariant-loop-flag l = All (IsUnset no_regions) l.unset.items
