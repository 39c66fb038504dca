use Rattle.vx_session.proofs.Recorded.{sector_few}
use Rattle.vx_session.proofs.marking.sector_at.Goals as goal

pub returns-clause-few : goal.returns-clause-few
returns-clause-few c = sector_few c.args.bounds.now c.args.p c.sector_of.result c.soundness.ensures c.sector_of.ensures
