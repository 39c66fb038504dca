use Rattle.vx_store.proofs.CodeLemmas.{at_piston, at_sticky}
use Rattle.vx_store.proofs.code.piston_code.Goals as goal

pub returns-then-sticky-clause-cell : goal.returns-then-sticky-clause-cell
returns-then-sticky-clause-cell c = rw c.if-sticky.true (at_sticky c.args.code c.requires)

pub returns-else-sticky-clause-cell : goal.returns-else-sticky-clause-cell
returns-else-sticky-clause-cell c = rw c.if-sticky.false (at_piston c.args.code c.requires)
