use Rattle.vx_decide.proofs.Answering.{decided_is, one_answer, answer_decided}
use Rattle.vx_decide.proofs.laws.one_answer.Goals as goal

pub returns-clause-answer : goal.returns-clause-answer
returns-clause-answer c = decided_is

pub returns-clause-one : goal.returns-clause-one
returns-clause-one c = one_answer

pub returns-clause-decided : goal.returns-clause-decided
returns-clause-decided c = answer_decided
