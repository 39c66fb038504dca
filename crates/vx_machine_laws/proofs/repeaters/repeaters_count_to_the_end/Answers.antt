use Rattle.vx_machine_laws.proofs.Counting.{counts_go_on, counts_end_on, counts_end_as_input, pulses_go_through}
use Rattle.vx_machine_laws.proofs.repeaters.repeaters_count_to_the_end.Goals as goal

pub returns-clause-go_on : goal.returns-clause-go_on
returns-clause-go_on c = counts_go_on

pub returns-clause-on : goal.returns-clause-on
returns-clause-on c = counts_end_on

pub returns-clause-as_input : goal.returns-clause-as_input
returns-clause-as_input c = counts_end_as_input

pub returns-clause-pulse : goal.returns-clause-pulse
returns-clause-pulse c = pulses_go_through
