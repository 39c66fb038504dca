use Rattle.std.proofs.Common.{◌≡◌, ◌++◌, map, length, drop}
use Rattle.std.specs.List.{list_all}
use Rattle.vx_name.specs.Alphabet.{passes}
use Rattle.vx_name.specs.Words.{lower}
use Rattle.vx_name.proofs.word.read_any.Given as goal

abbrev pub invariant-loop-byte : goal.invariant-loop-byte
invariant-loop-byte g l = record {
  length : length l.word.bytes ≡ l.byte-index;
  word : l.word.bytes ++ map lower (drop l.byte-index l.byte-items) ≡ map lower l.byte-items;
  passed : list_all (passes l.alphabet) (drop l.byte-index l.byte-items) ≡ list_all (passes l.alphabet) l.byte-items;
}
