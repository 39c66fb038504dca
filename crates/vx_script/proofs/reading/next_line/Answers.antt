use Rattle.std.proofs.Common.{◌≡◌, ◌+◌, Err, ap, ◌∙◌}
use Rattle.vx_lines.specs.declared.line_error.LineError.TheVariants.{TooLong}
use Rattle.vx_lines.specs.declared.lines.TheConstants.{MAX_LINE_BYTES}
use Rattle.vx_script.specs.declared.fault.Fault.TheVariants.{Syntax}
use Rattle.vx_script.proofs.Going.{long_known}
use Rattle.vx_script.proofs.reading.next_line.Goals as goal

pub returns-in-Err-TooLong-clause-long : goal.returns-in-Err-TooLong-clause-long
returns-in-Err-TooLong-clause-long g c =
    let was : c.take.result ≡ Err TooLong = c.in-Err-TooLong.is ∙ ap Err c.in-Err-TooLong.field-0-is in
    let long = c.take.ensures.long was in
    λ fault same own.
    let is : fault ≡ Syntax (c.number.result + 1) = cc in (
      is ∙ ap (λ n. Syntax (n + 1)) (c.number.ensures.value ∙ long.0 ∙ c.pieces.invariant.number),
      c.pieces.invariant.written,
      long_known MAX_LINE_BYTES _ _ _ c.pieces.invariant.known long.1,
    )
