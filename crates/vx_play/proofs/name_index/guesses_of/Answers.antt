use Rattle.std.proofs.Common.{refl}
use Rattle.vx_name.specs.Texts.{texts}
use Rattle.vx_play.proofs.Guessing.{all_first}
use Rattle.vx_play.proofs.name_index.guesses_of.Goals as goal

pub loop-number-init : goal.loop-number-init
loop-number-init c = all_first (texts c.args.names.now) _ 256 refl
