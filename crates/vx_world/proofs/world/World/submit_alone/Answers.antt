use Rattle.std.proofs.Common.{◌<◌, IfSome, sym, subst}
use Rattle.vx_sector.specs.Commands.{place_of}
use Rattle.vx_world.proofs.Numbers.{below_all}
use Rattle.vx_world.proofs.world.World.submit_alone.Goals as goal

pub act_in-requires-clause-there : goal.act_in-requires-clause-there
act_in-requires-clause-there g c =
    let world = c.args.self.now in
    subst (λ found. IfSome found (λ number. number < g.A.Places.all)) c.in-Some.is
    (below_all world.bounds (place_of c.args.cmd.now) _ c.args.number c.soundness.ensures c.requires world.divided)

pub index_mut-slot-requires : goal.index_mut-slot-requires
index_mut-slot-requires g c =
    let world = c.args.self.now in
    let below = subst (λ found. IfSome found (λ number. number < g.A.Places.all)) c.in-Some.is
    (below_all world.bounds (place_of c.args.cmd.now) _ c.args.number c.soundness.ensures c.requires world.divided) in
    subst (λ n. c.in-Some.at < n) (sym world.all_here) below
