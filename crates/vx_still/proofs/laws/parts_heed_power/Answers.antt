use Rattle.vx_still.proofs.Sensing.{others_rest_by_power, dust_rests_by_level}
use Rattle.vx_still.proofs.Stilling.{parts_read_power}
use Rattle.vx_still.proofs.laws.parts_heed_power.Goals as goal

pub returns-clause-power : goal.returns-clause-power
returns-clause-power c = parts_read_power

pub returns-clause-others : goal.returns-clause-others
returns-clause-others c = others_rest_by_power

pub returns-clause-dust : goal.returns-clause-dust
returns-clause-dust c = dust_rests_by_level
