use Rattle.vx_name.proofs.Spelling.{word_over, word_refused, word_whole}
use Rattle.vx_name.proofs.word.read_any.Goals as goal

pub returns-then-not-passes-clause-value : goal.returns-then-not-passes-clause-value
returns-then-not-passes-clause-value g c =
    word_refused c.args.alphabet g.row.N c.loop-byte.byte-index c.args.text.now
    (rw c.as_bytes-byte-items.ensures.value at c.loop-byte-test.true)
    (rw c.as_bytes-byte-items.ensures.value at c.if-not-passes.ensures.value)
    (rw c.as_bytes-byte-items.ensures.value at c.loop-byte.invariant.passed)

pub returns-clause-value : goal.returns-clause-value
returns-clause-value g c =
    word_whole c.args.alphabet g.row.N c.loop-byte.byte-index c.args.text.now c.loop-byte.word.bytes c.requires.some c.requires.short
    (rw c.as_bytes-byte-items.ensures.value at c.loop-byte-test.false)
    (rw c.as_bytes-byte-items.ensures.value at c.loop-byte.invariant.word)
    (rw c.as_bytes-byte-items.ensures.value at c.loop-byte.invariant.passed)

pub returns-clause-word : goal.returns-clause-word
returns-clause-word g c =
    word_over c.args.alphabet g.row.N c.loop-byte.byte-index c.args.text.now c.loop-byte.word.bytes c.requires.some c.requires.short
    (rw c.as_bytes-byte-items.ensures.value at c.loop-byte-test.false)
    (rw c.as_bytes-byte-items.ensures.value at c.loop-byte.invariant.word)
    (rw c.as_bytes-byte-items.ensures.value at c.loop-byte.invariant.passed)
