use Rattle.vx_power.proofs.Local.{activity_heeds, links_see_built}
use Rattle.vx_power.proofs.Turning.{feeding_sees_turned}
use Rattle.vx_power.proofs.laws.signals_heed_what_was_turned.Goals as goal

pub returns-clause-links : goal.returns-clause-links
returns-clause-links c = links_see_built

pub returns-clause-feeding : goal.returns-clause-feeding
returns-clause-feeding c = feeding_sees_turned

pub returns-clause-activity : goal.returns-clause-activity
returns-clause-activity c = activity_heeds
