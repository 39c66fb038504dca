use Rattle.vx_decide.proofs.Ranks.{decider_contains_the_place}
use Rattle.vx_decide.proofs.laws.decider_contains_the_place.Goals as goal

pub returns : goal.returns
returns c = decider_contains_the_place
