use Rattle.vx_policy.specs.Asked.{asked}
use Rattle.vx_policy.proofs.Silent.{unset_stays}
use Rattle.vx_policy.proofs.unset.flag_set.Goals as goal

pub returns : goal.returns
returns c = λ rs f other unset. unset_stays rs (asked c.args.edit.now) f unset (c.set_by.ensures f other)
