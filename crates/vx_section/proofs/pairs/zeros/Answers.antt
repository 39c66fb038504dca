use Rattle.std.proofs.Common.{◌∙◌}
use Rattle.vx_section.specs.Forms.{kind_at}
use Rattle.vx_section.proofs.Pairing.{zeros_unpacked, zeros_fit}
use Rattle.vx_section.proofs.Filled.{filled_is}
use Rattle.vx_section.proofs.pairs.zeros.Goals as goal

pub returns-clause-bytes : goal.returns-clause-bytes
returns-clause-bytes c palette = zeros_unpacked palette 2048 ∙ filled_is 4096 (kind_at palette 0)

pub returns-clause-numbers : goal.returns-clause-numbers
returns-clause-numbers c = zeros_fit 2048
