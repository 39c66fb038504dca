use Rattle.std.proofs.Common.{map, ap, ◌∙◌}
use Rattle.vx_sector.specs.Windows.{count_of}
use Rattle.vx_world.proofs.Ticked.{counts_again}
use Rattle.vx_world.proofs.ticking.tick_of.Goals as goal

pub returns-clause-counts : goal.returns-clause-counts
returns-clause-counts g c = ap (map count_of) c.close.ensures.sectors ∙ counts_again _ _ _
