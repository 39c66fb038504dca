use Rattle.std.proofs.Common.{◌≡◌, List, Option, ◌++◌, length, ◌+◌, ◌-◌}
use Rattle.std.specs.Io.KnownBytes.{prepend_known}
use Rattle.vx_grammar.specs.ScriptLines.{Said}
use Rattle.vx_lines.specs.Reading.{pending}
use Rattle.vx_lines.specs.declared.input.TheConstants.{MAX_SCRIPT_BYTES}
use Rattle.vx_script.specs.Headers.{says_of}
use Rattle.vx_script.specs.Known.{Goes, KeepsSize}
use Rattle.vx_script.specs.Sessions.{HasDone}
use Rattle.vx_session.specs.Sessions.{names_of}
use Rattle.vx_script.specs.Stages.{AreSeated, stage_behind, stage_in}
use Rattle.vx_script.proofs.playing.read_lines.Given as goal

-- the lines before those that are left were done, and the replies to them written; they lead to this
-- stage
abbrev pub invariant-body_lines : goal.invariant-body_lines
invariant-body_lines g l =
    record {
      done : Goes (prepend_known (pending l.fn.lines) (g.R.Read.remaining l.fn.reader)) (prepend_known (pending l.lines) (g.R.Read.remaining l.reader))
          (λ bytes rest. (front : List (Option Said)) × (says_of bytes ≡ front ++ says_of rest) × (l.lines.number ≡ l.fn.lines.number + length front)
          × (stage_in l.stage ≡ stage_behind (names_of l.fn.session) (stage_in l.fn.stage) front)
          × HasDone g.A.Naming.first l.fn.session l.session (stage_in l.fn.stage) front (g.W.Write.contents l.fn.writer) (g.W.Write.contents l.writer));
      seated : AreSeated (names_of l.session) (stage_in l.stage);
      size : KeepsSize l.fn.lines (g.R.Read.remaining l.fn.reader) l.lines (g.R.Read.remaining l.reader);
    }

abbrev pub decreases-body_lines : goal.decreases-body_lines
decreases-body_lines g l = MAX_SCRIPT_BYTES - l.lines.number
