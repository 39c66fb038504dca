use Rattle.std.proofs.Common.{◌≤◌, ◌+◌, ◌-◌, vec_len}
use Rattle.std.specs.Io.KnownBytes.{Consumes}
use Rattle.vx_file.specs.declared.reading.TheConstants.{BUFFER_BYTES}
use Rattle.vx_file.specs.declared.policy.TheConstants.{MAX_BYTES}
use Rattle.vx_file.proofs.reading.read_bytes.Given as goal

-- what was read so far is taken from the reader
abbrev pub invariant-loop-reads : goal.invariant-loop-reads
invariant-loop-reads g l =
    Consumes (g.R.Read.remaining l.fn.reader) (g.R.Read.remaining l.reader) l.bytes.items
    × (BUFFER_BYTES ≤ vec_len l.buffer)

abbrev pub decreases-loop-reads : goal.decreases-loop-reads
decreases-loop-reads g l = MAX_BYTES + 1 - vec_len l.bytes
