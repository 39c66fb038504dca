use Rattle.vx_decide.proofs.Ranks.{taken_speaks_lowest, speaks_lowest_is_taken}
use Rattle.vx_decide.proofs.laws.taken_speaks_lowest.Goals as goal

pub returns-clause-lowest : goal.returns-clause-lowest
returns-clause-lowest c = taken_speaks_lowest

pub returns-clause-taken : goal.returns-clause-taken
returns-clause-taken c = speaks_lowest_is_taken
