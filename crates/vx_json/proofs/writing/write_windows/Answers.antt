use Rattle.vx_windows.specs.Sectors.{entries_in}
use Rattle.vx_json.proofs.Lines.{window_more, written_on}
use Rattle.vx_json.proofs.writing.write_windows.Goals as goal

pub loop-sector-preserved : goal.loop-sector-preserved
loop-sector-preserved g c =
    written_on _ _ _ _ _ _
    (window_more c.args.tick entries_in c.args.windows.now c.loop-sector.sector c.index-windows-sector.result c.loop-sector-test.true c.index-windows-sector.is)
    c.loop-sector.invariant (rw c.as_slice.ensures.value at c.in_ok-write_window.ensures)
