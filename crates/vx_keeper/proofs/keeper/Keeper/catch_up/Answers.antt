use Rattle.std.proofs.Common.{sym, ap, subst, ◌∙◌}
use Rattle.vx_policy.specs.declared.version.Version.{Version}
use Rattle.vx_sector.specs.Windows.{count_of}
use Rattle.vx_keeper.specs.Marks.{IsPartOf, renumbered}
use Rattle.vx_keeper.proofs.keeper.Keeper.catch_up.Goals as goal

pub returns-clause-part : goal.returns-clause-part
returns-clause-part g c is =
    let part = c.has_marked.ensures c.if-not-has_marked.false in
    subst (IsPartOf c.args.self.now.world) (sym c.renumber.ensures) (part.0, part.1)

pub returns-clause-caught : goal.returns-clause-caught
returns-clause-caught g c is =
    c.renumber.ensures ∙ ap (λ (v : Version). renumbered c.args.marked.now v.tick) c.version.ensures

pub returns-clause-count : goal.returns-clause-count
returns-clause-count g c = ap count_of c.renumber.ensures
