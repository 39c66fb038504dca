use Rattle.vx_power.proofs.Linking.{links_lead_back}
use Rattle.vx_power.proofs.laws.links_lead_back.Goals as goal

pub returns : goal.returns
returns c = links_lead_back
