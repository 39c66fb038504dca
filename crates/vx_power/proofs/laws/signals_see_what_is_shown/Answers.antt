use Rattle.vx_power.proofs.Local.{dust_sees_shown, power_sees_shown, activity_sees_shown}
use Rattle.vx_power.proofs.laws.signals_see_what_is_shown.Goals as goal

pub returns-clause-dust : goal.returns-clause-dust
returns-clause-dust c = dust_sees_shown

pub returns-clause-power : goal.returns-clause-power
returns-clause-power c = power_sees_shown

pub returns-clause-activity : goal.returns-clause-activity
returns-clause-activity c = activity_sees_shown
