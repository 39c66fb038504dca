use Rattle.vx_script.proofs.FirstFaults as faults
use Rattle.vx_script.proofs.laws.faults_are_of_the_script.Goals as goal

pub returns : goal.returns
returns c = faults.faults_are_of_the_script
