use Rattle.std.proofs.Common.{◌≡◌, ◌++◌, OnOk, ◌∙◌, subst}
use Rattle.vx_places.specs.Places.{is_at}
use Rattle.vx_tick.proofs.Resting.{kept_changes, kept_restless}
use Rattle.vx_tick.proofs.seen.Seen.add_places.Goals as goal

pub returns-clause-changes : goal.returns-clause-changes
returns-clause-changes g c =
    subst (λ found. OnOk c.add_all.result (c.add_all.new.self.changes.items ≡ c.args.self.now.changes.items ++ found))
    (kept_changes c.args.map.now (g.L.Leveled.level c.args.levels.now) c.requires.levels (is_at c.args.places.now)
    c.requires.settled c.args.sector c.args.places.now.sizes _ c.requires.sizes
    (c.as_slice.ensures.value ∙ c.in_ok-here.ensures))
    c.add_all.ensures.changes

pub returns-clause-restless : goal.returns-clause-restless
returns-clause-restless g c =
    subst (λ found. OnOk c.add_all.result (c.add_all.new.self.restless.items ≡ c.args.self.now.restless.items ++ found))
    (kept_restless c.args.map.now (g.L.Leveled.level c.args.levels.now) c.requires.levels (is_at c.args.places.now)
    c.requires.settled c.args.sector c.args.places.now.sizes _ c.requires.sizes
    (c.as_slice.ensures.value ∙ c.in_ok-here.ensures))
    c.add_all.ensures.restless
