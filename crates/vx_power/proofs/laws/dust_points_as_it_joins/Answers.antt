use Rattle.vx_power.proofs.Pointing.{points_to_all, points_along, points_to_joins}
use Rattle.vx_power.proofs.laws.dust_points_as_it_joins.Goals as goal

pub returns-clause-all : goal.returns-clause-all
returns-clause-all c = points_to_all

pub returns-clause-along : goal.returns-clause-along
returns-clause-along c = points_along

pub returns-clause-joins : goal.returns-clause-joins
returns-clause-joins c = points_to_joins
