use Rattle.vx_record.proofs.Counting.{counts_go_on, counts_agree_again}
use Rattle.vx_record.proofs.laws.counts_go_on.Goals as goal

pub returns-clause-next : goal.returns-clause-next
returns-clause-next c = counts_go_on

pub returns-clause-again : goal.returns-clause-again
returns-clause-again c = counts_agree_again
