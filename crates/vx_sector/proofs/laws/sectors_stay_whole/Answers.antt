use Rattle.vx_sector.proofs.Keeping.{sectors_stay_whole}
use Rattle.vx_sector.proofs.laws.sectors_stay_whole.Goals as goal

pub returns : goal.returns
returns c = sectors_stay_whole
