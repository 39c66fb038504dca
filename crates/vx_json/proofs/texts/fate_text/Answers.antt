use Rattle.vx_json.proofs.Spelling.{fate_plain}
use Rattle.vx_json.proofs.texts.fate_text.Goals as goal

pub returns-clause-plain : goal.returns-clause-plain
returns-clause-plain c = fate_plain c.args.p c.args.fate
