use Rattle.vx_sector.proofs.Transfers.{looking_changes_nothing, opening_changes_nothing}
use Rattle.vx_sector.proofs.laws.seeing_changes_nothing.Goals as goal

pub returns-clause-look : goal.returns-clause-look
returns-clause-look c = looking_changes_nothing

pub returns-clause-open : goal.returns-clause-open
returns-clause-open c = opening_changes_nothing
