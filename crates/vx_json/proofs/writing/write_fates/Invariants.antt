use Rattle.std.proofs.Common.{take}
use Rattle.std.specs.Io.KnownBytes.{Appends}
use Rattle.std.specs.List.{flat_map}
use Rattle.vx_json.specs.Records.{fate_line}
use Rattle.vx_json.proofs.writing.write_fates.Given as goal

-- the fates so far are written
abbrev pub invariant-loop-p : goal.invariant-loop-p
invariant-loop-p g l =
    Appends (g.W.Write.contents l.fn.writer) (g.W.Write.contents l.writer)
    (flat_map (fate_line l.tick) (take l.p-index l.fates))
