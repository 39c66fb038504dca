use Rattle.vx_marks.proofs.Marking.{zero_at}
use Rattle.vx_windows.specs.Limits.{most_players}
use Rattle.vx_audit.proofs.counts.clear_row.Goals as goal

pub returns : goal.returns
returns c = λ seat. zero_at most_players seat 0
