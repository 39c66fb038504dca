use Rattle.vx_json.proofs.Spelling.{refusal_plain}
use Rattle.vx_json.proofs.texts.answer_text.Goals as goal

pub returns-in-Err-clause-plain : goal.returns-in-Err-clause-plain
returns-in-Err-clause-plain c = rw c.in-Err.is (refusal_plain c.in-Err.refusal)
