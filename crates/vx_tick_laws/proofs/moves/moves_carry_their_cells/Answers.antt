use Rattle.vx_tick_laws.proofs.MovedCells.{pushes_push, draws_draw}
use Rattle.vx_tick_laws.proofs.moves.moves_carry_their_cells.Goals as goal

pub returns-clause-pushes : goal.returns-clause-pushes
returns-clause-pushes c = pushes_push

pub returns-clause-draws : goal.returns-clause-draws
returns-clause-draws c = draws_draw
