use Rattle.vx_script.proofs.FirstFaults.{first_fault}
use Rattle.vx_script.proofs.laws.first_fault.Goals as goal

pub returns : goal.returns
returns c = first_fault
