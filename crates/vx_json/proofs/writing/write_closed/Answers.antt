use Rattle.std.proofs.Common.{◌<◌, ◌≤◌, length, ap, subst, arith}
use Rattle.std.specs.Io.KnownBytes.{Appends}
use Rattle.std.specs.List.{flat_map}
use Rattle.std.proofs.lemmas.List.{take_all}
use Rattle.vx_json.specs.Records.{call_line, calls_text}
use Rattle.vx_json.proofs.Lines.{closed_more, written_on}
use Rattle.vx_json.proofs.writing.write_closed.Goals as goal

pub loop-sector-preserved : goal.loop-sector-preserved
loop-sector-preserved g c =
    let k = c.loop-sector.sector in
    let windows = c.args.windows.now in
    let within : k < length windows = omega (arith, c.loop-sector-test.true, c.count-sector-end.ensures) in
    written_on _ _ _ _ _ _ (closed_more c.args.tick windows k within) c.loop-sector.invariant
    (subst (λ es. Appends (g.W.Write.contents c.loop-sector.writer) (g.W.Write.contents c.write_window.new.writer) (flat_map (call_line c.args.tick k) es))
    c.window.ensures c.in_ok-write_window.ensures)

pub returns : goal.returns
returns g c =
    let k = c.loop-sector.sector in
    let windows = c.args.windows.now in
    let past : length windows ≤ k = omega (arith, c.loop-sector-test.false, c.count-sector-end.ensures) in
    subst (Appends (g.W.Write.contents c.args.writer.now) (g.W.Write.contents c.loop-sector.writer))
    (ap (calls_text c.args.tick 0) (take_all k windows past)) c.loop-sector.invariant
