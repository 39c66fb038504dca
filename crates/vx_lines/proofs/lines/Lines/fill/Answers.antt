use Rattle.std.proofs.Common.{length, if◌then◌else◌, []}
use Rattle.vx_lines.proofs.Taking.{counted}
use Rattle.vx_lines.proofs.lines.Lines.fill.Goals as goal

pub invariant_of-self : goal.invariant_of-self
invariant_of-self g c =
    let inside = c.self.inside in (
      c.self.invariant.0,
      counted c.fill.result inside.number (length (if inside.unfinished then inside.line.items else [])) inside.input c.fill.new.self c.fill.ensures.count c.fill.ensures.err c.self.invariant.1,
      c.fill.ensures.within,
    )
