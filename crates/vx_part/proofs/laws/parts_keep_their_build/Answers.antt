use Rattle.vx_part.proofs.Keeping.{parts_keep_their_build}
use Rattle.vx_part.proofs.laws.parts_keep_their_build.Goals as goal

pub returns : goal.returns
returns c = parts_keep_their_build
