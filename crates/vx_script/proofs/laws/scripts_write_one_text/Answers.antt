use Rattle.vx_script.proofs.OneText as texts
use Rattle.vx_script.proofs.laws.scripts_write_one_text.Goals as goal

pub returns : goal.returns
returns c = texts.scripts_write_one_text
