use Rattle.std.proofs.Common.{sym}
use Rattle.vx_policy.proofs.Accepted.{number_there}
use Rattle.vx_policy.proofs.changes.known.Goals as goal

pub returns-clause-there : goal.returns-clause-there
returns-clause-there c = number_there _ c.in-Ok.id.text.bytes _ (sym c.in-Some.ensures)
