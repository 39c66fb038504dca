use Rattle.vx_region_laws.proofs.Standings.{players_stand, machines_stand}
use Rattle.vx_region_laws.proofs.standing.owners_are_named_or_stand_there.Goals as goal

pub returns-clause-players : goal.returns-clause-players
returns-clause-players c = players_stand

pub returns-clause-machines : goal.returns-clause-machines
returns-clause-machines c = machines_stand
