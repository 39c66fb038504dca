use Rattle.std.proofs.Common.{◌*◌, ◌+◌, ◌/◌, ◌%◌, Some, None, subst, sym, arith}
use Rattle.vx_marks.specs.Marks.{is_marked, IsFirst}
use Rattle.vx_marks.proofs.WordBits.{first_in_word}
use Rattle.vx_marks.proofs.words.first_in_word.Goals as goal

pub returns : goal.returns
returns c =
    let from = c.args.from in
    first_in_word c.args.words.now (from / 64) from (from % 64) (Some c.in_ok-bit.bit) (omega arith) c.in_ok-bit.ensures

pub returns-in_err-bit : goal.returns-in_err-bit
returns-in_err-bit c =
    let words = c.args.words.now in
    let from = c.args.from in
    subst (IsFirst (is_marked words) (64 * (from / 64 + 1)) from) (sym c.from_residual.ensures)
    (first_in_word words (from / 64) from (from % 64) None (omega arith) c.in_err-bit.ensures)
