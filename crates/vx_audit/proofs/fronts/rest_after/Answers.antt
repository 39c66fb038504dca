use Rattle.std.proofs.Common.{map}
use Rattle.vx_sector.specs.SectorData.{entry_of}
use Rattle.vx_audit.proofs.Counted.{one_by}
use Rattle.vx_audit.proofs.fronts.rest_after.Goals as goal

pub loop-next-preserved : goal.loop-next-preserved
loop-next-preserved c =
    one_by c.args.due (map entry_of c.args.left.now) c.loop-next.due (map entry_of c.loop-next.rest.now) (entry_of c.in-Some.next.now)
    c.take_one.new.due (map entry_of c.in-Some.others.now)
    c.loop-next.invariant c.in-Some.ensures (c.take_one.ensures.taken c.if-not-take_one.false)
