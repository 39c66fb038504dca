use Rattle.vx_part.proofs.Nexts.{locked_repeaters_stay}
use Rattle.vx_part.proofs.Delays.{repeaters_delay}
use Rattle.vx_part.proofs.laws.repeaters_delay_and_lock.Goals as goal

pub returns-clause-locked : goal.returns-clause-locked
returns-clause-locked c = locked_repeaters_stay

pub returns-clause-delay : goal.returns-clause-delay
returns-clause-delay c = repeaters_delay
