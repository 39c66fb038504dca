use Rattle.vx_keeper.proofs.Closing.{sees_more}
use Rattle.vx_keeper.proofs.keeper.Keeper.fix.Goals as goal

pub invariant_of-self-2 : goal.invariant_of-self-2
invariant_of-self-2 g c = (
  sees_more g.A.Naming.first g.A.Places.all c.self.inside.archive c.self.inside.known
      c.self.inside.view c.fix.new.self c.fix.ensures.later c.in_ok-fix.ensures.version.1 c.self.invariant.0,
  c.self.invariant.1,
  c.self.invariant.2,
)
