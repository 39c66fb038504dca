-- the desk of the machine is named by the policy that the world opens with
use Rattle.vx_core.proofs.running.run_core.Given as goal

abbrev pub ghosts-run_named : goal.ghosts-run_named
ghosts-run_named g = record { first = g.opening.now.policy }
