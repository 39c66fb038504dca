use Rattle.vx_machine_laws.proofs.Sharing.{rivals_beat, first_rivals_beat}
use Rattle.vx_machine_laws.proofs.rivals.first_rivals_beat.Goals as goal

pub returns-clause-rivals : goal.returns-clause-rivals
returns-clause-rivals c = rivals_beat

pub returns-clause-first : goal.returns-clause-first
returns-clause-first c = first_rivals_beat
