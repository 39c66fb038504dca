use Rattle.std.proofs.Common.{◌≡◌, get_or, bytes_eq, false, sym, ◌∙◌}
use Rattle.vx_block.specs.Kind.{kind_word}
use Rattle.vx_block.specs.declared.kind.Kind.TheVariants.{Air}
use Rattle.vx_block.proofs.KindWords.{kinds, passed, none_left}
use Rattle.vx_block.proofs.kind.Kind.read.Goals as goal

pub loop-kind-preserved : goal.loop-kind-preserved
loop-kind-preserved c =
    let has : c.word.result.now ≡ kind_word (get_or kinds c.loop-kind.kind-index Air) = c.word.ensures.word in
    let differs : bytes_eq c.args.word.now (kind_word (get_or kinds c.loop-kind.kind-index Air)) ≡ false =
    rw (sym has, sym c.as_bytes-in-loop-kind.ensures.value, sym c.as_bytes.ensures.value) (sym c.is_spelled.ensures ∙ c.if-is_spelled.false) in
    passed c.args.word.now c.loop-kind.kind-index c.loop-kind-test.true differs c.loop-kind.invariant

pub returns-clause-only : goal.returns-clause-only
returns-clause-only c = none_left c.args.word.now c.loop-kind.kind-index c.loop-kind-test.false c.loop-kind.invariant
