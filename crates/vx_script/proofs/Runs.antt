-- What one more line says of where a header ends, and what is left of a script.
use Rattle.std.proofs.Common.{◌≡◌, ℕ, ◌+◌, ◌<◌, List, ◌∷◌, length, map, Option, None, if◌then◌else◌, ap, sym, ◌∙◌}
use Rattle.std.proofs.lemmas.Bool.{lt-ltb}
use Rattle.vx_grammar.specs.ScriptLines.{Said, line_of}
use Rattle.vx_lines.specs.Lines.{lines_of}
use Rattle.vx_script.specs.declared.fault.Fault.{Fault}
use Rattle.vx_script.specs.declared.fault.Fault.TheVariants.{Syntax}
use Rattle.vx_script.specs.Headers.{Opening, HeaderEnd, Faulty, Begins, most_bytes, read_of, says_of, header_line, header_end}

-- a line that is too long is none
pub too_long : (line : List ℕ) → most_bytes < length line → read_of line ≡ None
unfolding read_of
too_long line long = ap (λ b. if b then None else line_of line) (lt-ltb most_bytes (length line) long)

-- what a line says comes first
pub says_more : (rest more line : List ℕ) → lines_of rest ≡ line ∷ lines_of more → says_of rest ≡ read_of line ∷ says_of more
says_more rest more line first = ap (map read_of) first

module _ (o : Opening) (n : ℕ) (line : List ℕ) (lines : List (Option Said)) where
  -- a line that is too long ends the header
  pub header_long : most_bytes < length line → header_end o n (read_of line ∷ lines) ≡ Faulty (Syntax n)
  unfolding header_line
  header_long long = ap (λ read. header_line o n read (λ next. header_end next (n + 1) lines) (λ first. Begins o n first lines)) (too_long line long)

  module _ (said : Option Said) (k : ℕ) (same : k ≡ n) (reads : said ≡ read_of line) where
    -- a line of the header does what it was read to say
    as_read : header_end o n (read_of line ∷ lines) ≡ header_line o k said (λ next. header_end next (n + 1) lines) (λ first. Begins o n first lines)
    as_read = ap (λ read. header_line o n read (λ next. header_end next (n + 1) lines) (λ first. Begins o n first lines)) (sym reads)
        ∙ ap (λ m. header_line o m said (λ next. header_end next (n + 1) lines) (λ first. Begins o n first lines)) (sym same)

    -- it is faulty
    pub header_stop : (fault : Fault) → ((go : Opening → HeaderEnd) (first : Said → HeaderEnd) → header_line o k said go first ≡ Faulty fault)
        → header_end o n (read_of line ∷ lines) ≡ Faulty fault
    header_stop fault step = as_read ∙ step _ _

    -- it is taken
    pub header_step : (next : Opening) → ((go : Opening → HeaderEnd) (first : Said → HeaderEnd) → header_line o k said go first ≡ go next)
        → header_end o n (read_of line ∷ lines) ≡ header_end next (n + 1) lines
    header_step next step = as_read ∙ step _ _

    -- it is the first of the body
    pub header_first : (command : Said) → ((go : Opening → HeaderEnd) (first : Said → HeaderEnd) → header_line o k said go first ≡ first command)
        → header_end o n (read_of line ∷ lines) ≡ Begins o n command lines
    header_first command step = as_read ∙ step _ _
