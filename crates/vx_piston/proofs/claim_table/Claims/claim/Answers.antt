use Rattle.vx_piston.proofs.Wanted.{claimed_late, claimed_first}
use Rattle.vx_piston.proofs.claim_table.Claims.claim.Goals as goal
use Rattle.vx_piston.proofs.claim_table.Claims.claim.Goals.{in-Ok, in-Err}

pub returns-then-is_some : goal.returns-then-is_some
returns-then-is_some c = claimed_late c.args.p c.args.by c.args.self.now (cc)

pub returns : goal.returns
returns c = elim c.match-insert.branch [
  | in-Ok w ↦ rw w.result-is (rw (← c.self.view_is)
      (claimed_first c.args.p c.args.by c.self.inside.first.entries c.insert.new.self.entries (cc)
      w.in-Ok.ensures.updates.0))
  | in-Err w ↦ rw w.result-is tt
]
