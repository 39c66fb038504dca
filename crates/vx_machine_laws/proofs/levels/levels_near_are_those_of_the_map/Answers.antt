use Rattle.vx_machine_laws.proofs.NearLevels.{near_are_these}
use Rattle.vx_power.proofs.Local.{all_near}
use Rattle.vx_machine_laws.proofs.levels.levels_near_are_those_of_the_map.Goals as goal

pub returns-clause-near : goal.returns-clause-near
returns-clause-near c = near_are_these

pub returns-clause-all : goal.returns-clause-all
returns-clause-all c = all_near
