use Rattle.std.specs.Prelude.{ℕ, ◌<◌}
use Rattle.std.specs.List.{All, slice_index_or}
use Rattle.vx_decide.specs.Unset.{IsUnset}
use Rattle.vx_flag.specs.declared.flag.Flag.{Flag}
use Rattle.vx_region.specs.Regions.{Regions}
use Rattle.vx_policy.specs.Asked.{asked}
use Rattle.vx_policy.specs.Edits.{edited}
use Rattle.vx_policy.proofs.unset.stay_unset.Given as goal

-- those that were looked at so far are set nowhere after it
abbrev pub invariant-loop-flag : goal.invariant-loop-flag
invariant-loop-flag l = (rs : Regions) → All (IsUnset rs) l.unset → (k : ℕ) (d : Flag) → k < l.flag-index
    → IsUnset (edited rs (asked l.edit)) (slice_index_or l.unset k d)
