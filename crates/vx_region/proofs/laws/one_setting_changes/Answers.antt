use Rattle.vx_region.proofs.FlagChanges.{setting_set, setting_kept}
use Rattle.vx_region.proofs.laws.one_setting_changes.Goals as goal

pub returns-clause-set : goal.returns-clause-set
returns-clause-set c = setting_set

pub returns-clause-others : goal.returns-clause-others
returns-clause-others c = setting_kept
