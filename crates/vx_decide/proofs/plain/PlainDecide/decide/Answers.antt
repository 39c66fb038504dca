use Rattle.vx_decide.proofs.ByNumber.{all_regions, all_suffice}
use Rattle.vx_decide.proofs.plain.PlainDecide.decide.Goals as goal

pub invariant_of-inquiry-clause-whole : goal.invariant_of-inquiry-clause-whole
invariant_of-inquiry-clause-whole c =
    rw c.new-asker.ensures.regions (all_suffice c.self.inside.regions.now c.args.p c.all.result c.soundness.ensures.forest c.all.ensures)

pub invariant_of-inquiry-clause-known : goal.invariant_of-inquiry-clause-known
invariant_of-inquiry-clause-known c =
    rw c.new-asker.ensures.regions (all_regions c.self.inside.regions.now c.all.result c.soundness.ensures.forest c.all.ensures)
