use Rattle.vx_json.proofs.Spelling.{cmd_plain}
use Rattle.vx_json.proofs.texts.cmd_text.Goals as goal

pub returns-clause-plain : goal.returns-clause-plain
returns-clause-plain c = cmd_plain c.args.cmd
