use Rattle.std.proofs.Common.{subst}
use Rattle.vx_keeper.specs.Marks.{IsMarkOf, IsPartOf}
use Rattle.vx_keeper.proofs.marked.Marked.has.Goals as goal

pub returns-in-Some : goal.returns-in-Some
returns-in-Some g c same world is =
    let own = subst (λ m. IsMarkOf m c.self.inside.sector) c.in-Some.is c.self.invariant in
    subst (IsPartOf world) c.self.view_is
    (subst (λ w. IsPartOf w c.self.inside.sector) (c.same.ensures same own.0 world own.1 is) own.2)
