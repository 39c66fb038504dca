use Rattle.vx_sector.proofs.Transfers.{putting_adds_so_many}
use Rattle.vx_sector.proofs.laws.putting_adds_so_many.Goals as goal

pub returns : goal.returns
returns c = putting_adds_so_many
