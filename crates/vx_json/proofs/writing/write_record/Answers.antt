use Rattle.std.proofs.Common.{map}
use Rattle.vx_base.proofs.Bytes.{OnOk-then}
use Rattle.vx_record.specs.Records.{tick_in}
use Rattle.vx_windows.specs.Sectors.{entries_in}
use Rattle.vx_json.specs.Records.{tick_text}
use Rattle.vx_json.proofs.Lines.{one_more, record_whole, written_on}
use Rattle.vx_json.proofs.writing.write_record.Goals as goal

pub loop-tick-preserved : goal.loop-tick-preserved
loop-tick-preserved g c =
    written_on _ _ _ _ _ _
    (one_more tick_text tick_in c.as_slice-ticks.result.now c.loop-tick.tick-index c.tick-item.result c.loop-tick-test.true c.tick-item.is)
    c.loop-tick.invariant c.in_ok-write_tick.ensures

pub returns : goal.returns
returns g c =
    OnOk-then _ _ c.write_windows.result c.write_windows.ensures (λ written.
    written_on _ _ _ _ _ _
    (record_whole tick_in c.as_slice-ticks.result.now c.args.chronicle.now.ticks.items c.loop-tick.tick-index
    (map entries_in c.args.windows.now) c.loop-tick-test.false c.as_slice-ticks.ensures.value)
    c.loop-tick.invariant written)
