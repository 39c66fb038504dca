use Rattle.vx_decide.proofs.ByNumber.{all_suffice}
use Rattle.vx_decide.proofs.asker.Asker.new.Goals as goal

pub invariant_of-result : goal.invariant_of-result
invariant_of-result c = record { homes = λ q is. all_suffice c.args.regions.now q c.all.result c.soundness.ensures.forest c.all.ensures }
