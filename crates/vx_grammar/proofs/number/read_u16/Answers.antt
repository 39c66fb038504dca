-- The word is read as a number of 32 bits, which is then tried at 16 bits.
use Rattle.std.proofs.Common.{◌∙◌, ap, refl, rules, lit<}
use Rattle.std.proofs.lemmas.Int.{to_z-of_z}
use mir.Syntax.{w32}
use mir.Val.{SFits}
use Rattle.std.specs.Option.{option_and_then}
use Rattle.vx_grammar.specs.Numbers.{u16_of, natural_within}
use Rattle.vx_grammar.proofs.Spelled.{small_of, natural_tried}
use Rattle.vx_grammar.proofs.number.read_u16.Goals as goal

pub returns-in_err-read_i32 : goal.returns-in_err-read_i32
unfolding u16_of
returns-in_err-read_i32 c = c.from_residual.ensures ∙ ap (option_and_then (natural_within 65535)) c.in_err-read_i32.ensures ∙ small_of 65535 c.args.word.now (lit< tt)

pub returns : goal.returns
unfolding u16_of
returns c =
    let fits : SFits w32 c.in_ok-read_i32.field-0 = search rules in
    let tried = natural_tried 16 65535 _ c.try_from.result refl c.try_from.ensures in
    let same = ap (natural_within 65535) (to_z-of_z w32 c.in_ok-read_i32.field-0 fits) in
    c.ok.ensures.value ∙ tried ∙ same ∙ ap (option_and_then (natural_within 65535)) c.in_ok-read_i32.ensures ∙ small_of 65535 c.args.word.now (lit< tt)
