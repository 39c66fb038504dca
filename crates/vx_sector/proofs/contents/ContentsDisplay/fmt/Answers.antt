use Rattle.std.proofs.Common.{◌≡◌, rules, sym, ap, add-one, arith, ◌∙◌}
use Rattle.std.proofs.Output.{has_written_append, has_written_of_eq}
use Rattle.vx_sector.specs.Texts.{contents_text}
use Rattle.vx_sector.proofs.ContentsLemmas.{slots_more, all_written}
use Rattle.vx_sector.proofs.contents.ContentsDisplay.fmt.Goals as goal

pub loop-number-preserved : goal.loop-number-preserved
loop-number-preserved g c = λ plain. rw add-one (has_written_of_eq _ _ _ _ _ (sym (slots_more 0 c.loop-number.number c.as_slice-slots.result.now (omega arith)))
    (has_written_append _ _ _ _ _ _ (c.loop-number.invariant plain) (search rules)))

pub returns-clause-writes : goal.returns-clause-writes
returns-clause-writes g c = λ plain. λ ok.
    let own : c.as_slice-slots.result.now ≡ c.args.self.now = search rules in
    has_written_of_eq _ _ _ _ _
    (all_written c.loop-number.number c.as_slice-slots.result.now (omega arith) (sym c.any_filled.ensures ∙ c.if-not-any_filled.false) ∙ ap contents_text own)
    (c.loop-number.invariant plain)
