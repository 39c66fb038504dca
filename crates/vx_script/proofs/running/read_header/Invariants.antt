use Rattle.std.proofs.Common.{◌≡◌, ◌+◌, ◌-◌}
use Rattle.std.specs.Io.KnownBytes.{Keeps, prepend_known}
use Rattle.vx_lines.specs.Reading.{pending}
use Rattle.vx_lines.specs.declared.input.TheConstants.{MAX_SCRIPT_BYTES}
use Rattle.vx_script.specs.Headers.{header_end, says_of}
use Rattle.vx_script.specs.Known.{Goes, KeepsSize}
use Rattle.vx_script.proofs.running.read_header.Given as goal

-- the header so far and the lines that are left end as all of them do
abbrev pub invariant-header_lines : goal.invariant-header_lines
invariant-header_lines g l =
    record {
      same : Goes (prepend_known (pending l.fn.lines) (g.R.Read.remaining l.fn.reader)) (prepend_known (pending l.lines) (g.R.Read.remaining l.reader))
          (λ bytes rest. header_end l.fn.header (l.fn.lines.number + 1) (says_of bytes) ≡ header_end l.header (l.lines.number + 1) (says_of rest));
      size : KeepsSize l.fn.lines (g.R.Read.remaining l.fn.reader) l.lines (g.R.Read.remaining l.reader);
      written : Keeps (g.W.Write.contents l.fn.writer) (g.W.Write.contents l.writer);
    }

abbrev pub decreases-header_lines : goal.decreases-header_lines
decreases-header_lines g l = MAX_SCRIPT_BYTES - l.lines.number
