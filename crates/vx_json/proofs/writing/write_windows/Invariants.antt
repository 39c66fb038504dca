use Rattle.std.proofs.Common.{map, take}
use Rattle.std.specs.Io.KnownBytes.{Appends}
use Rattle.vx_windows.specs.Sectors.{entries_in}
use Rattle.vx_json.specs.Records.{calls_text}
use Rattle.vx_json.proofs.writing.write_windows.Given as goal

-- the calls of the windows so far are written
abbrev pub invariant-loop-sector : goal.invariant-loop-sector
invariant-loop-sector g l =
    Appends (g.W.Write.contents l.fn.writer) (g.W.Write.contents l.writer)
    (calls_text l.tick 0 (map entries_in (take l.sector l.windows)))
