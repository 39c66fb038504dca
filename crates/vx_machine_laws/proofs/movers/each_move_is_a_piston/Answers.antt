use Rattle.vx_machine_laws.proofs.Pushing.{moves_are_pistons}
use Rattle.vx_machine_laws.proofs.movers.each_move_is_a_piston.Goals as goal

pub returns : goal.returns
returns c = moves_are_pistons
