-- At the end all bytes are those of the text.
use Rattle.std.proofs.Common.{◌≤◌, length, sym, ◌∙◌, rules}
use Rattle.std.proofs.lemmas.List.{take_all}
use Rattle.std.proofs.lemmas.Slice.Eq.{bytes_eq-Decides}
use Rattle.vx_base.proofs.spelling.is_spelled.Goals as goal

pub returns : goal.returns
returns c =
    let text_end : length c.args.text.now ≤ c.loop-i.i = search rules in
    let word_end : length c.args.word.now ≤ c.loop-i.i = search rules in
    let same = sym (take_all _ _ word_end) ∙ c.loop-i.invariant ∙ take_all _ _ text_end in
    sym ((bytes_eq-Decides c.args.word.now c.args.text.now).1 same)
