use Rattle.vx_power.proofs.Local.{dust_sees, power_sees, activity_sees}
use Rattle.vx_power.proofs.laws.signals_see_few_steps.Goals as goal

pub returns-clause-dust : goal.returns-clause-dust
returns-clause-dust c = dust_sees

pub returns-clause-power : goal.returns-clause-power
returns-clause-power c = power_sees

pub returns-clause-activity : goal.returns-clause-activity
returns-clause-activity c = activity_sees
