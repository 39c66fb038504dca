use Rattle.vx_machine_laws.proofs.Pushing.{open_rows_are_pushed, shut_rows_stay, long_rows_stay}
use Rattle.vx_machine_laws.proofs.movers.active_pistons_push.Goals as goal

pub returns-clause-pushed : goal.returns-clause-pushed
returns-clause-pushed c = open_rows_are_pushed

pub returns-clause-shut : goal.returns-clause-shut
returns-clause-shut c = shut_rows_stay

pub returns-clause-long : goal.returns-clause-long
returns-clause-long c = long_rows_stay
