use Rattle.vx_sector.proofs.Outside.{room_where_not_full}
use Rattle.vx_record.proofs.Adding.{nothing_recorded}
use Rattle.vx_record.proofs.lists.act_into.Goals as goal

pub returns-in_default-clause-sector : goal.returns-in_default-clause-sector
returns-in_default-clause-sector c = nothing_recorded _ _ _

pub carry_out-requires-clause-room : goal.carry_out-requires-clause-room
carry_out-requires-clause-room c = room_where_not_full c.args.sector.now c.requires.room
