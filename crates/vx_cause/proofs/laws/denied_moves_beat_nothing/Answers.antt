use Rattle.vx_cause.proofs.Made.{beaten_by_permitted, beaten_still_beats}
use Rattle.vx_cause.proofs.laws.denied_moves_beat_nothing.Goals as goal

pub returns-clause-by : goal.returns-clause-by
returns-clause-by c = beaten_by_permitted

pub returns-clause-beaten : goal.returns-clause-beaten
returns-clause-beaten c = beaten_still_beats
