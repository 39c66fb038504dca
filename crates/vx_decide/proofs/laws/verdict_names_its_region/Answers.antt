use Rattle.vx_decide.proofs.Rulings.{rule_holds, held_is_the_verdict, names_a_region_at_the_place}
use Rattle.vx_decide.proofs.laws.verdict_names_its_region.Goals as goal

pub returns-clause-holds : goal.returns-clause-holds
returns-clause-holds c = rule_holds

pub returns-clause-only : goal.returns-clause-only
returns-clause-only c = held_is_the_verdict

pub returns-clause-place : goal.returns-clause-place
returns-clause-place c = names_a_region_at_the_place
