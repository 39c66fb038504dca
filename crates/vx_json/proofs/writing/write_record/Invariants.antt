use Rattle.std.proofs.Common.{map, take}
use Rattle.std.specs.Io.KnownBytes.{Appends}
use Rattle.std.specs.List.{flat_map}
use Rattle.vx_record.specs.Records.{tick_in}
use Rattle.vx_json.specs.Records.{tick_text}
use Rattle.vx_json.proofs.writing.write_record.Given as goal

-- the ticks so far are written
abbrev pub invariant-loop-tick : goal.invariant-loop-tick
invariant-loop-tick g l =
    Appends (g.W.Write.contents l.fn.writer) (g.W.Write.contents l.writer)
    (flat_map tick_text (map tick_in (take l.tick-index l.ticks)))
