use Rattle.vx_core.proofs.Reaching as reaching
use Rattle.vx_core.proofs.laws.every_run_is_reached.Goals as goal

pub returns-clause-rules : goal.returns-clause-rules
returns-clause-rules c = reaching.outcomes_are_by_the_rules

pub returns-clause-reached : goal.returns-clause-reached
returns-clause-reached c = reaching.by_the_rules_is_reached

pub returns-clause-runs : goal.returns-clause-runs
returns-clause-runs c = reaching.runs_are_reached
