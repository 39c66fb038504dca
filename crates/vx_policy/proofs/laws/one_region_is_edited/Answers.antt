use Rattle.vx_policy.proofs.Others.{others_are_kept, definition_keeps_others}
use Rattle.vx_policy.proofs.laws.one_region_is_edited.Goals as goal

pub returns-clause-named : goal.returns-clause-named
returns-clause-named c = others_are_kept

pub returns-clause-defined : goal.returns-clause-defined
returns-clause-defined c = definition_keeps_others
