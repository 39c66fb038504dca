use Rattle.std.proofs.Common.{◌≡◌, ◌+◌, ◌*◌, ◌/◌, ◌%◌, ◌∙◌, ap, get_or, set, arith}
use Rattle.vx_section.specs.Forms.{unpacked, kind_at}
use Rattle.vx_section.proofs.Pairing.{set_low, set_high}
use Rattle.vx_section.proofs.pairs.set_number.Goals as goal

pub returns-then-place-eq0-clause-bytes : goal.returns-then-place-eq0-clause-bytes
returns-then-place-eq0-clause-bytes c palette =
    let i = c.args.place in
    let n = c.args.number in
    let pairs = c.args.pairs.now in
    let even : i % 2 ≡ 0 = c.if-place-eq0.true in
    let e : 2 * (i / 2) ≡ i = omega arith in
    let x = get_or pairs (i / 2) 0 / 16 * 16 + n in
    set_low palette pairs (i / 2) x n (omega arith) (omega arith) (omega arith)
    ∙ ap (λ j. set (unpacked palette pairs) j (kind_at palette n)) e

pub returns-else-place-eq0-clause-bytes : goal.returns-else-place-eq0-clause-bytes
returns-else-place-eq0-clause-bytes c palette =
    let i = c.args.place in
    let n = c.args.number in
    let pairs = c.args.pairs.now in
    let e : 2 * (i / 2) + 1 ≡ i = omega (arith, c.if-place-eq0.false) in
    let x = 16 * n + get_or pairs (i / 2) 0 % 16 in
    set_high palette pairs (i / 2) x n (omega arith) (omega arith) (omega arith)
    ∙ ap (λ j. set (unpacked palette pairs) j (kind_at palette n)) e
