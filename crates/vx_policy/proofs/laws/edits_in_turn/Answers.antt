use Rattle.vx_policy.proofs.Turns.{after_push, accepted_push, accepted_before, accepted_last}
use Rattle.vx_policy.proofs.laws.edits_in_turn.Goals as goal

pub returns-clause-made : goal.returns-clause-made
returns-clause-made c = after_push

pub returns-clause-accepted : goal.returns-clause-accepted
returns-clause-accepted c rs es e = (λ all. (accepted_before rs es e all, accepted_last rs es e all), λ both. accepted_push rs es e both.0 both.1)
