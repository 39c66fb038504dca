use Rattle.vx_script.proofs.Leave as leave
use Rattle.vx_script.proofs.laws.scripts_have_leave.Goals as goal

pub returns : goal.returns
returns c = leave.scripts_have_leave
