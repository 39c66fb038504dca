use Rattle.vx_part.proofs.Nexts.{dust_keeps_its_level, torches_invert}
use Rattle.vx_part.proofs.laws.dust_keeps_torches_invert.Goals as goal

pub returns-clause-dust : goal.returns-clause-dust
returns-clause-dust c = dust_keeps_its_level

pub returns-clause-torch : goal.returns-clause-torch
returns-clause-torch c = torches_invert
