use Rattle.vx_places.proofs.Marked.{no_entries}
use Rattle.vx_places.proofs.places.Places.new.Goals as goal

pub returns-clause-none : goal.returns-clause-none
returns-clause-none c = λ p. no_entries _ p c.new.ensures.items
