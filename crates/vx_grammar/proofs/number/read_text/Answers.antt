-- `parse` reads a `+` too, so a word that begins with one never gets there.
use Rattle.std.proofs.Common.{◌∙◌, sym, lit<}
use Rattle.std.proofs.lemmas.Bool.{both_ways}
use Rattle.std.proofs.lemmas.Str.Pattern.{starts_char}
use Rattle.vx_grammar.proofs.Spelled.{parsed, plus_none}
use Rattle.vx_grammar.proofs.number.read_text.Goals as goal

pub returns-then-starts_with : goal.returns-then-starts_with
returns-then-starts_with c =
    let plus = starts_char 43 c.args.word.now c.starts_with.result c.starts_with.ensures.cases (lit< tt) (lit< tt) in
    sym (plus_none c.args.word.now (plus.0 c.if-starts_with.true))

pub returns : goal.returns
returns c =
    let plus = starts_char 43 c.args.word.now c.starts_with.result c.starts_with.ensures.cases (lit< tt) (lit< tt) in
    c.ok.ensures.value ∙ parsed c.args.word.now c.parse.result c.parse.ensures.value.0 (λ e. both_ways c.starts_with.result c.if-starts_with.false (plus.1 e))
