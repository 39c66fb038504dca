use Rattle.std.proofs.Common.{◌≡◌, ◌++◌, OnOk, ◌∙◌, subst}
use Rattle.vx_tick.proofs.Resting.{components_changes, components_restless}
use Rattle.vx_tick.proofs.seen.Seen.add_sector.Goals as goal

pub returns-clause-changes : goal.returns-clause-changes
returns-clause-changes g c =
    subst (λ found. OnOk c.add_all.result (c.add_all.new.self.changes.items ≡ c.args.self.now.changes.items ++ found))
    (components_changes c.args.map.now (g.L.Leveled.level c.args.levels.now) c.args.sector c.as_slice.result.now
    c.requires.levels (c.as_slice.ensures.value ∙ c.in_ok-here.ensures))
    c.add_all.ensures.changes

pub returns-clause-restless : goal.returns-clause-restless
returns-clause-restless g c =
    subst (λ found. OnOk c.add_all.result (c.add_all.new.self.restless.items ≡ c.args.self.now.restless.items ++ found))
    (components_restless c.args.map.now (g.L.Leveled.level c.args.levels.now) c.args.sector c.as_slice.result.now
    c.requires.levels (c.as_slice.ensures.value ∙ c.in_ok-here.ensures))
    c.add_all.ensures.restless
