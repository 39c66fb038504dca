use Rattle.std.proofs.Common.{◌≡◌}
use Rattle.std.specs.Io.KnownBytes.{Keeps, prepend_known}
use Rattle.vx_lines.specs.Reading.{pending}
use Rattle.vx_script.specs.Known.{KeepsSize}
use Rattle.vx_script.proofs.reading.next_line.Given as goal

-- what was taken so far is the front of the line
abbrev pub invariant-pieces : goal.invariant-pieces
invariant-pieces g l =
    record {
      known : Keeps (prepend_known (pending l.fn.lines) (g.R.Read.remaining l.fn.reader)) (prepend_known (pending l.lines) (g.R.Read.remaining l.reader));
      size : KeepsSize l.fn.lines (g.R.Read.remaining l.fn.reader) l.lines (g.R.Read.remaining l.reader);
      number : l.lines.number ≡ l.fn.lines.number;
      written : Keeps (g.W.Write.contents l.fn.writer) (g.W.Write.contents l.writer);
    }
