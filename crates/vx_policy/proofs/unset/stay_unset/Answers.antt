use Rattle.vx_decide.specs.Unset.{IsUnset}
use Rattle.vx_policy.specs.Asked.{asked}
use Rattle.vx_policy.specs.Edits.{edited}
use Rattle.vx_policy.proofs.Silent.{one_more}
use Rattle.vx_policy.proofs.unset.stay_unset.Goals as goal

pub loop-flag-preserved : goal.loop-flag-preserved
loop-flag-preserved c = λ rs unset.
    one_more (IsUnset (edited rs (asked c.args.edit.now))) c.args.unset.now c.loop-flag.flag-index _ c.loop-flag-test.true (c.loop-flag.invariant rs unset)
    (c.flag_set-set.ensures rs _ (c.is_flag.ensures c.if-is_flag.false) (unset c.loop-flag.flag-index _ c.loop-flag-test.true))
