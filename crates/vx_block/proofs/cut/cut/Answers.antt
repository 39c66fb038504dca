use Rattle.std.proofs.Common.{◌∙◌, ap, sym, lit<, Some, None}
use Rattle.std.proofs.lemmas.Str.Pattern.{split_parts}
use Rattle.vx_block.specs.Cut.{colon, word_of, tail_of}
use Rattle.vx_block.proofs.Colons.{word_before, tail_behind, word_alone, no_tail}
use Rattle.vx_block.proofs.cut.cut.Goals as goal

pub returns-in-Some-clause-word : goal.returns-in-Some-clause-word
returns-in-Some-clause-word c =
    let parts = split_parts colon c.args.text.now (Some (c.in-Some.word, c.in-Some.tail)) c.in-Some.ensures.cases (lit< tt) in
    sym (ap word_of parts.0 ∙ word_before c.in-Some.word.now c.in-Some.tail.now parts.1)

pub returns-in-Some-clause-tail : goal.returns-in-Some-clause-tail
returns-in-Some-clause-tail c =
    let parts = split_parts colon c.args.text.now (Some (c.in-Some.word, c.in-Some.tail)) c.in-Some.ensures.cases (lit< tt) in
    sym (ap tail_of parts.0 ∙ tail_behind c.in-Some.word.now c.in-Some.tail.now parts.1)

pub returns-in-None-clause-word : goal.returns-in-None-clause-word
returns-in-None-clause-word c =
    sym (word_alone c.args.text.now (split_parts colon c.args.text.now None c.in-None.ensures.cases (lit< tt)))

pub returns-in-None-clause-tail : goal.returns-in-None-clause-tail
returns-in-None-clause-tail c =
    sym (no_tail c.args.text.now (split_parts colon c.args.text.now None c.in-None.ensures.cases (lit< tt)))
