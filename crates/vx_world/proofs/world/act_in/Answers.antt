use Rattle.std.proofs.Common.{rules}
use Rattle.vx_sector.specs.Commands.{place_of}
use Rattle.vx_world.proofs.Numbers.{held_here}
use Rattle.vx_world.proofs.world.act_in.Goals as goal

pub act-requires-clause-held : goal.act-requires-clause-held
act-requires-clause-held g c =
    held_here c.args.bounds.now (place_of c.args.cmd.now) c.args.number c.in-Some.home.now.marked c.requires.held (search rules)
