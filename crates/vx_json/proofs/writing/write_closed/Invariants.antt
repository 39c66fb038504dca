use Rattle.std.proofs.Common.{take}
use Rattle.std.specs.Io.KnownBytes.{Appends}
use Rattle.vx_json.specs.Records.{calls_text}
use Rattle.vx_json.proofs.writing.write_closed.Given as goal

-- the calls of the windows so far are written
abbrev pub invariant-loop-sector : goal.invariant-loop-sector
invariant-loop-sector g l =
    Appends (g.W.Write.contents l.fn.writer) (g.W.Write.contents l.writer)
    (calls_text l.tick 0 (take l.sector l.windows))
