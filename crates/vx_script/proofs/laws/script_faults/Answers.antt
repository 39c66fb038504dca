use Rattle.vx_script.proofs.ScriptFaults.{script_faults}
use Rattle.vx_script.proofs.laws.script_faults.Goals as goal

pub returns : goal.returns
returns c = script_faults
