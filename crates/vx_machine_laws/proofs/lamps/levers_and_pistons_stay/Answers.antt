use Rattle.vx_machine_laws.proofs.Nexts.{levers_stay, pistons_stay}
use Rattle.vx_machine_laws.proofs.lamps.levers_and_pistons_stay.Goals as goal

pub returns-clause-levers : goal.returns-clause-levers
returns-clause-levers c = levers_stay

pub returns-clause-pistons : goal.returns-clause-pistons
returns-clause-pistons c = pistons_stay
