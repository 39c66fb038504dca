use Rattle.vx_power.specs.Dust.{links}
use Rattle.vx_power.specs.Signals.{is_fed}
use Rattle.vx_power.proofs.Reach.{is_level, falls_by_one}
use Rattle.vx_power.proofs.laws.levels_are_walks.Goals as goal

pub returns-clause-walks : goal.returns-clause-walks
returns-clause-walks c w p = is_level (is_fed w) (links w) p

pub returns-clause-falls : goal.returns-clause-falls
returns-clause-falls c w p q linked = falls_by_one (is_fed w) (links w) p q linked
