use Rattle.std.proofs.Common.{map, take}
use Rattle.std.specs.Io.KnownBytes.{Appends}
use Rattle.std.specs.List.{flat_map}
use Rattle.vx_sector.specs.SectorData.{entry_of}
use Rattle.vx_json.specs.Records.{call_line}
use Rattle.vx_json.proofs.writing.write_window.Given as goal

-- the calls so far are written
abbrev pub invariant-loop-entry : goal.invariant-loop-entry
invariant-loop-entry g l =
    Appends (g.W.Write.contents l.fn.writer) (g.W.Write.contents l.writer)
    (flat_map (call_line l.tick l.sector) (map entry_of (take l.entry-index l.window)))
