use Rattle.std.proofs.Common.{map}
use Rattle.vx_sector.specs.SectorData.{entry_of}
use Rattle.vx_record.specs.Rests.{lists_in}
use Rattle.vx_record.proofs.Behind.{unsaid_all, told_by_rests}
use Rattle.vx_record.proofs.rests.unsaid.Goals as goal

pub returns-in-Some : goal.returns-in-Some
returns-in-Some c =
    unsaid_all c.args.seats (lists_in c.args.table.now) (map entry_of c.args.entries.now)
    c.in-Some.seat c.in-Some.ensures

pub returns : goal.returns
returns c =
    told_by_rests c.args.seats (lists_in c.args.table.now)
    (lists_in c.take_from.new.table) (map entry_of c.args.entries.now) c.first_left.result
    c.in_default.ensures c.first_left.ensures
