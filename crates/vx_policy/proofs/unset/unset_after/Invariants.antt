use Rattle.std.specs.List.{All}
use Rattle.vx_decide.specs.Unset.{IsUnset}
use Rattle.vx_region.specs.Regions.{Regions}
use Rattle.vx_policy.specs.Asked.{asked}
use Rattle.vx_policy.specs.Edits.{edited}
use Rattle.vx_policy.proofs.unset.unset_after.Given as goal

abbrev pub invariant-loop-flag : goal.invariant-loop-flag
invariant-loop-flag l = (rs : Regions) → All (IsUnset rs) l.unset → All (IsUnset (edited rs (asked l.edit))) l.kept.items
