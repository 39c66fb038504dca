use Rattle.std.proofs.Common.{sym, subst}
use Rattle.std.specs.List.{All}
use Rattle.std.specs.Prelude.{List}
use Rattle.std.proofs.lemmas.List.Elements.{All-push}
use Rattle.vx_decide.specs.Unset.{IsUnset}
use Rattle.vx_flag.specs.declared.flag.Flag.{Flag}
use Rattle.vx_policy.specs.Asked.{asked}
use Rattle.vx_policy.specs.Edits.{edited}
use Rattle.vx_policy.proofs.unset.unset_after.Goals as goal

pub loop-flag-preserved : goal.loop-flag-preserved
loop-flag-preserved c = λ rs unset.
    let after = edited rs (asked c.args.edit.now) in
    subst (λ (fs : List Flag). All (IsUnset after) fs) (sym c.in_ok-push.ensures.items)
    (All-push (IsUnset after) c.loop-flag.kept.items _ (c.loop-flag.invariant rs unset)
    (c.flag_set-set.ensures rs _ (c.is_flag.ensures c.if-is_flag.false) (unset c.loop-flag.flag-index _ c.loop-flag-test.true)))
