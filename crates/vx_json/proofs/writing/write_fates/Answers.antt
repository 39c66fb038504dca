use Rattle.vx_json.specs.Records.{fate_line}
use Rattle.vx_json.proofs.Lines.{next_more, written_on}
use Rattle.vx_json.proofs.writing.write_fates.Goals as goal

pub loop-p-preserved : goal.loop-p-preserved
loop-p-preserved g c =
    written_on _ _ _ _ _ _
    (next_more (fate_line c.args.tick) c.args.fates.now c.loop-p.p-index _ c.loop-p-test.true)
    c.loop-p.invariant c.in_ok-write_fate.ensures
