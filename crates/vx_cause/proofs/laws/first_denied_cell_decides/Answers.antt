use Rattle.vx_cause.proofs.Plots.{of_first, is_denial, cell_by_cell}
use Rattle.vx_cause.proofs.laws.first_denied_cell_decides.Goals as goal

pub returns-clause-denied : goal.returns-clause-denied
returns-clause-denied c = of_first

pub returns-clause-first : goal.returns-clause-first
returns-clause-first c = is_denial

pub returns-clause-permitted : goal.returns-clause-permitted
returns-clause-permitted c = cell_by_cell
