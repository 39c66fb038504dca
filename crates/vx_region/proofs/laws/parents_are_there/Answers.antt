use Rattle.std.proofs.Common.{◌∙◌}
use Rattle.vx_region.proofs.Lookups.{parent_at}
use Rattle.vx_region.proofs.laws.parents_are_there.Goals as goal

pub returns : goal.returns
returns c rs n q r forest there has = forest.parents n q (parent_at rs n r there ∙ has)
