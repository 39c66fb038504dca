use Rattle.vx_sector.proofs.Transfers.{taking_leaves_so_many_fewer}
use Rattle.vx_sector.proofs.laws.taking_leaves_so_many_fewer.Goals as goal

pub returns : goal.returns
returns c = taking_leaves_so_many_fewer
