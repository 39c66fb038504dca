use Rattle.vx_geom.proofs.RowEnds.{rows_lie_within}
use Rattle.vx_geom.proofs.Rows.{rows_hold_positions}
use Rattle.vx_geom.proofs.laws.rows_hold_positions.Goals as goal

pub returns : goal.returns
returns c = record { holds = rows_hold_positions; within = rows_lie_within }
