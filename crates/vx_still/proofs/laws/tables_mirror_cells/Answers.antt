use Rattle.vx_still.proofs.Stilling.{mirrors_agree, ticks_mirror}
use Rattle.vx_still.proofs.laws.tables_mirror_cells.Goals as goal

pub returns-clause-agree : goal.returns-clause-agree
returns-clause-agree c = mirrors_agree

pub returns-clause-ticks : goal.returns-clause-ticks
returns-clause-ticks c = ticks_mirror
