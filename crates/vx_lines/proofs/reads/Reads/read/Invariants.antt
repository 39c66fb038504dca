use Rattle.std.proofs.Common.{◌-◌}
use Rattle.std.specs.Io.KnownBytes.{Keeps}
use Rattle.vx_lines.specs.declared.reads.TheConstants.{MAX_READS}
use Rattle.vx_lines.proofs.reads.Reads.read.Given as goal

-- no read has taken anything yet
abbrev pub invariant-loop-self : goal.invariant-loop-self
invariant-loop-self g l = Keeps (g.R.Read.remaining l.initial.reader) (g.R.Read.remaining l.reader)

abbrev pub decreases-loop-self : goal.decreases-loop-self
decreases-loop-self g l = MAX_READS - l.self.made
