use Rattle.std.proofs.Common.{◌<◌, IfSome, rules, sym, subst, ◌∙◌}
use Rattle.vx_sector.specs.Commands.{place_of}
use Rattle.vx_world.proofs.Numbers.{below_all, held_here}
use Rattle.vx_world.proofs.world.World.submit_in.Goals as goal

pub act-requires-clause-there : goal.act-requires-clause-there
act-requires-clause-there g c =
    let world = c.args.self.now in
    subst (λ found. IfSome found (λ number. number < g.A.Places.all)) c.in-Some.is
    (below_all world.bounds (place_of c.args.cmd.now) _ c.args.number c.soundness.ensures c.requires world.divided)

pub index-requires : goal.index-requires
index-requires g c =
    let world = c.args.self.now in
    let below = subst (λ found. IfSome found (λ number. number < g.A.Places.all)) c.in-Some.is
    (below_all world.bounds (place_of c.args.cmd.now) _ c.args.number c.soundness.ensures c.requires world.divided) in
    subst (λ n. c.in-Some.number < n) (sym world.all_here) below

pub act-requires-clause-held : goal.act-requires-clause-held
act-requires-clause-held g c =
    held_here c.args.self.now.bounds (place_of c.args.cmd.now) c.in-Some.number c.in-Some-home.home.marked (sym c.requires ∙ c.in-Some.is)
    (search rules)
