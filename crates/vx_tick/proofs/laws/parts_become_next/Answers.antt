use Rattle.vx_tick.proofs.Advancing.{parts_become_next, unchanged_stay}
use Rattle.vx_tick.proofs.laws.parts_become_next.Goals as goal

pub returns-clause-next : goal.returns-clause-next
returns-clause-next c = parts_become_next

pub returns-clause-others : goal.returns-clause-others
returns-clause-others c = unchanged_stay
