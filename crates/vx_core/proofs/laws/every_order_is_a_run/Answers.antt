use Rattle.vx_core.proofs.Soundness as soundness
use Rattle.vx_core.proofs.laws.every_order_is_a_run.Goals as goal

pub returns-clause-nothing : goal.returns-clause-nothing
returns-clause-nothing c = soundness.changes_nothing

pub returns-clause-run : goal.returns-clause-run
returns-clause-run c = soundness.is_always_a_run

pub returns-clause-grown : goal.returns-clause-grown
returns-clause-grown c = soundness.versions_grow

pub returns-clause-open : goal.returns-clause-open
returns-clause-open c = soundness.windows_are_open
