use Rattle.vx_region_laws.proofs.Joining.{domains_are_no_players}
use Rattle.vx_region_laws.proofs.domain.domains_are_no_players.Goals as goal

pub returns : goal.returns
returns c = domains_are_no_players
