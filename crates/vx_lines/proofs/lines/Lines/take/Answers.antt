use Rattle.std.proofs.Common.{◌≡◌, ◌<◌, ◌++◌, ◌∷◌, List, ℕ, if◌then◌else◌, [], length, ap, sym, ◌∙◌, subst, arith}
use Rattle.vx_lines.specs.Lines.{TakesPiece, lines_of}
use Rattle.vx_lines.specs.declared.lines.TheConstants.{MAX_LINE_BYTES}
use Rattle.vx_lines.proofs.Taking.{line_taken, line_long}
use Rattle.vx_lines.proofs.lines.Lines.take.Goals as goal

pub returns-then-len-gt-MAX_LINE_BYTES-clause-long : goal.returns-then-len-gt-MAX_LINE_BYTES-clause-long
returns-then-len-gt-MAX_LINE_BYTES-clause-long c =
    let inside = c.self.inside in
    let front : List ℕ = if inside.unfinished then inside.line.items else [] in
    let t = c.in_ok-found.ensures.ok in
    let line : c.take_line.new.line.items ≡ front ++ t.0 = t.2 ∙ ap (λ l. l ++ t.0) c.begin.ensures.line in
    let long : MAX_LINE_BYTES < length (front ++ t.0) = omega (arith, c.take_line.new.line.ok.0, ap length line) in
    λ same. (
      ap (λ r. r.number) c.self.view_is,
      λ more. rw (← c.self.view_is) (line_long MAX_LINE_BYTES front inside.input.rest t.0 c.take_line.new.self.rest more c.in_ok-found.found c.self.invariant.0 t.1 long),
    )

pub returns-then-found-clause-line : goal.returns-then-found-clause-line
returns-then-found-clause-line c =
    let inside = c.self.inside in
    let front : List ℕ = if inside.unfinished then inside.line.items else [] in
    let t = c.in_ok-found.ensures.ok in
    let line : c.take_line.new.line.items ≡ front ++ t.0 = t.2 ∙ ap (λ l. l ++ t.0) c.begin.ensures.line in
    let taken = subst (λ found. TakesPiece found inside.input.rest t.0 c.take_line.new.self.rest) c.if-found.true t.1 in
    λ same more. rw (← c.self.view_is) (line_taken front inside.input.rest t.0 c.take_line.new.self.rest more c.self.invariant.0 taken
    ∙ ap (λ l. l ∷ lines_of (c.take_line.new.self.rest ++ more)) (sym line))
