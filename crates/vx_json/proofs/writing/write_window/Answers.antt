use Rattle.std.proofs.Common.{rules}
use Rattle.vx_sector.specs.SectorData.{entry_of}
use Rattle.vx_json.specs.Records.{call_line}
use Rattle.vx_json.proofs.Lines.{one_more, written_on}
use Rattle.vx_json.proofs.writing.write_window.Goals as goal

pub loop-entry-preserved : goal.loop-entry-preserved
loop-entry-preserved g c =
    written_on _ _ _ _ _ _
    (one_more (call_line c.args.tick c.args.sector) entry_of c.args.window.now c.loop-entry.entry-index c.entry-item.result (search rules) c.entry-item.is)
    c.loop-entry.invariant c.in_ok-write_call.ensures
