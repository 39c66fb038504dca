use Rattle.std.proofs.Common.{◌≡◌, ◌-◌}
use Rattle.vx_region.specs.Ancestry.{chain}
use Rattle.vx_region.specs.Association.{association}
use Rattle.vx_region.specs.Subjects.{actor_of}
use Rattle.vx_decide.specs.Effective.{value_at, first_of}
use Rattle.vx_decide.proofs.effective.nearest.Given as goal

-- no region so far answers
abbrev pub invariant-loop : goal.invariant-loop
invariant-loop l =
    first_of (value_at l.asker.regions.now l.flag (association l.asker.regions.now (actor_of l.asker.subject.now) l.number.0)) (chain (l.count - l.counter) l.asker.regions.now l.at.0)
    ≡ first_of (value_at l.asker.regions.now l.flag (association l.asker.regions.now (actor_of l.asker.subject.now) l.number.0)) (chain l.fn.count l.asker.regions.now l.fn.from.0)
