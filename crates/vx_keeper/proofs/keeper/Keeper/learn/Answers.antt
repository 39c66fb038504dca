use Rattle.vx_keeper.proofs.Closing.{sees_more}
use Rattle.vx_keeper.proofs.keeper.Keeper.learn.Goals as goal

pub invariant_of-self : goal.invariant_of-self
invariant_of-self g c = (
  sees_more g.A.Naming.first g.A.Places.all c.self.inside.archive c.self.inside.known
      c.self.inside.view c.learn.new.self c.learn.ensures.later c.soundness.ensures c.self.invariant.0,
  c.self.invariant.1,
  c.self.invariant.2,
)
