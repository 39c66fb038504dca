use Rattle.vx_still.proofs.Marking.{added_is_marked}
use Rattle.vx_still.proofs.heeders.mark_with_heeders.Goals as goal

pub mark_heeders-requires-clause-own : goal.mark_heeders-requires-clause-own
mark_heeders-requires-clause-own c =
    added_is_marked c.args.map.now c.args.places.now c.mark.new.self c.args.p c.requires.sizes c.in_ok-mark.ensures.marked
