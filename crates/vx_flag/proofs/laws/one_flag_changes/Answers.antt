use Rattle.std.proofs.Common.{sym}
use Rattle.vx_flag.proofs.SettingLemmas.{flag_set, flag_kept}
use Rattle.vx_flag.proofs.laws.one_flag_changes.Goals as goal

pub returns-clause-changed : goal.returns-clause-changed
returns-clause-changed c = flag_set

pub returns-clause-others : goal.returns-clause-others
returns-clause-others c s f g o other = flag_kept s f g o (λ same. other (sym same))
