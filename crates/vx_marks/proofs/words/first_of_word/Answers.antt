use Rattle.std.proofs.Common.{◌*◌, Some, arith}
use Rattle.vx_marks.proofs.WordBits.{first_in_word}
use Rattle.vx_marks.proofs.words.first_of_word.Goals as goal

pub returns : goal.returns
returns c =
    let word = c.args.word in
    first_in_word c.args.words.now word (64 * word) 0 (Some c.lowest_bit-bit.result) (omega arith) c.lowest_bit-bit.ensures
