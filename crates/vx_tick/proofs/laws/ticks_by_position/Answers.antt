use Rattle.vx_tick.proofs.Making.{stays_filled, moves_are_asked, asked_are_moves, others_stay, made_are_put}
use Rattle.vx_tick.proofs.laws.ticks_by_position.Goals as goal

pub returns-clause-filled : goal.returns-clause-filled
returns-clause-filled c = stays_filled

pub returns-clause-asked : goal.returns-clause-asked
returns-clause-asked c = moves_are_asked

pub returns-clause-all : goal.returns-clause-all
returns-clause-all c = asked_are_moves

pub returns-clause-others : goal.returns-clause-others
returns-clause-others c = others_stay

pub returns-clause-made : goal.returns-clause-made
returns-clause-made c = made_are_put
