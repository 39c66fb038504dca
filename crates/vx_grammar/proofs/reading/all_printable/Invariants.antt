-- All bytes so far may stand in a line, or not.
use Rattle.std.proofs.Common.{◌≡◌, take}
use Rattle.std.specs.List.{list_all}
use Rattle.vx_grammar.specs.ScriptLines.{is_printable}
use Rattle.vx_grammar.proofs.reading.all_printable.Given as goal

abbrev pub invariant-loop-byte : goal.invariant-loop-byte
invariant-loop-byte l = l.all ≡ list_all is_printable (take l.byte-index l.fn.text)
