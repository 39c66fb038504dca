use Rattle.vx_decide.proofs.ByNumber.{candidates_suffice}
use Rattle.vx_decide.proofs.asker.Asker.at.Goals as goal

pub invariant_of-result : goal.invariant_of-result
invariant_of-result c = record {
  homes = λ q is.
      candidates_suffice c.args.regions.now q c.args.numbers.now c.at.result c.soundness.ensures.forest (c.requires.whole q is) c.at.ensures;
}
