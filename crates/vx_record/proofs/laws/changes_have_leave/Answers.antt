use Rattle.vx_record.proofs.Owning as owning
use Rattle.vx_record.proofs.laws.changes_have_leave.Goals as goal

pub returns-clause-changes : goal.returns-clause-changes
returns-clause-changes c = owning.changes_have_leave

pub returns-clause-commands : goal.returns-clause-commands
returns-clause-commands c = owning.commands_denied_by_the_policy

pub returns-clause-moves : goal.returns-clause-moves
returns-clause-moves c = owning.moves_denied_by_the_policy
