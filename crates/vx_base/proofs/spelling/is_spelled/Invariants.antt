-- The bytes so far are those of the text.
use Rattle.std.proofs.Common.{◌≡◌, take}
use Rattle.vx_base.proofs.spelling.is_spelled.Given as goal

abbrev pub invariant-loop-i : goal.invariant-loop-i
invariant-loop-i l = take l.i l.fn.word ≡ take l.i l.fn.text
