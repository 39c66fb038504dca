use Rattle.vx_still.proofs.Marking.{added_is_marked}
use Rattle.vx_still.proofs.heeders.mark_device.Goals as goal

pub returns-clause-marked : goal.returns-clause-marked
returns-clause-marked c =
    added_is_marked c.args.map.now c.args.places.now c.mark.new.self c.args.p c.requires.sizes c.in_ok-mark.ensures.marked
