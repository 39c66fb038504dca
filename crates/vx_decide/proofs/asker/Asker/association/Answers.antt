use Rattle.std.proofs.Common.{ap}
use Rattle.vx_region.specs.Subjects.{actor_of}
use Rattle.vx_decide.proofs.asker.Asker.association.Goals as goal

pub machine_association-requires : goal.machine_association-requires
machine_association-requires c = c.args.self.now.homes c.in-Machine.place (ap actor_of c.in-Machine.is)
