use Rattle.vx_policy.proofs.Accepted.{region_there}
use Rattle.vx_policy.proofs.changes.region.Goals as goal

pub returns-clause-there : goal.returns-clause-there
returns-clause-there c = region_there _ _ _ c.known.ensures.number c.requires.local c.known.ensures.there
