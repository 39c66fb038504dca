use Rattle.vx_play.proofs.Playing.{denied_by_the_opening, denied_by_the_last_tick}
use Rattle.vx_play.proofs.laws.denied_by_the_last_tick.Goals as goal

pub returns-clause-first : goal.returns-clause-first
returns-clause-first c = denied_by_the_opening

pub returns-clause-next : goal.returns-clause-next
returns-clause-next c = denied_by_the_last_tick
