use Rattle.vx_decide.proofs.ByNumber.{candidates_suffice, regions_of_numbers}
use Rattle.vx_decide.proofs.among.decide_among.Goals as goal

pub invariant_of-inquiry-clause-whole : goal.invariant_of-inquiry-clause-whole
invariant_of-inquiry-clause-whole c =
    candidates_suffice c.args.asker.now.regions.now c.args.p c.args.numbers.now c.at.result c.soundness.ensures.forest c.requires.numbers c.at.ensures

pub invariant_of-inquiry-clause-known : goal.invariant_of-inquiry-clause-known
invariant_of-inquiry-clause-known c = regions_of_numbers c.args.asker.now.regions.now c.args.numbers.now c.at.result c.at.ensures
