use Rattle.std.proofs.Common.{◌≡◌, ℕ, ◌+◌, ◌<◌, ◌≤◌, List, [], ◌++◌, length, take, Option, Some, None, IfSome, sym, ap, ◌∙◌, subst, arith, append-nil, length-append}
use Rattle.std.proofs.Math.Seq.{take-append_seam}
use Rattle.std.specs.Io.KnownBytes.{Consumes}
use Rattle.std.proofs.KnownBytes.{Consumes-nil, Consumes-trans, Consumes-whole}
use Rattle.vx_file.specs.RegionsFile.{most_bytes}
use Rattle.vx_file.proofs.reading.read_bytes.Goals as goal

-- what was taken is no more than there was
as_long : (a b : Option (List ℕ)) (bs : List ℕ) (most : ℕ) → Consumes a b bs → most < length bs
    → IfSome a (λ known. most < length known)
as_long None b bs most taken long = tt
as_long (Some xs) None bs most taken long = absurd taken
as_long (Some xs) (Some ys) bs most taken long =
    omega (arith, long, ap length taken, length-append bs ys)

-- a buffer whose front was written over, all of it
written_over : (n : ℕ) (new old : List ℕ) → length new ≡ n → take n (new ++ old) ≡ new
written_over n new old long =
    ap (λ m. take m (new ++ old)) (sym long) ∙ take-append_seam new old

pub loop-reads-init : goal.loop-reads-init
loop-reads-init g c =
    let none = c.new-bytes.ensures.items in
    let long = c.in_ok-buffer.ensures.len in (
      subst (Consumes _ _) (sym none) (Consumes-nil _),
      omega (arith, long, c.in_ok-buffer.buffer.ok.0),
    )

pub returns-then-count-eq0-clause-whole : goal.returns-then-count-eq0-clause-whole
returns-then-count-eq0-clause-whole g c =
    let read = c.in_ok-count.ensures in
    let none : c.in_ok-count.count ≡ 0 = c.if-count-eq0.true in
    let bytes = c.loop-reads.bytes.items in
    let taken = Consumes-trans _ _ _ _ _ c.loop-reads.invariant.0 read.bytes in
    Consumes-whole _ _ _ (λ known. bytes ≡ known) taken (read.end none)
    (sym (ap (λ n. bytes ++ take n c.read.new.buffer) none ∙ append-nil bytes))

pub loop-reads-preserved : goal.loop-reads-preserved
loop-reads-preserved g c =
    let taken = Consumes-trans _ _ _ _ _ c.loop-reads.invariant.0 c.in_ok-count.ensures.bytes in
    let more = c.in_ok-extend_from_slice.ensures.items in
    let whole = written_over _ c.read.new.buffer _ (c.in_ok-count.ensures.long ∙ c.deref_mut.ensures.len) in
    let same = ap (λ b. c.loop-reads.bytes.items ++ take c.in_ok-count.count b) (c.deref.ensures.value ∙ whole) in
    (subst (Consumes _ _) (sym (more ∙ same)) taken, c.loop-reads.invariant.1)

pub returns-clause-long : goal.returns-clause-long
returns-clause-long g c same =
    as_long _ _ _ most_bytes c.loop-reads.invariant.0
    (omega (arith, c.len.ensures, c.loop-reads-test.false, c.loop-reads.bytes.ok.0))
