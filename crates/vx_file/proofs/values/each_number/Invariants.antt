use Rattle.std.proofs.Common.{◌≡◌, drop, map}
use Rattle.toml.specs.View.{view}
use Rattle.vx_file.specs.FileValues.{each, number_in}
use Rattle.vx_file.proofs.FileLists.{onto}
use Rattle.vx_file.proofs.values.each_number.Given as goal

-- what is left gives the numbers that are missing
abbrev pub invariant-loop-value : goal.invariant-loop-value
invariant-loop-value l = onto l.numbers.items (each number_in (map view (drop l.value-index l.values))) ≡ each number_in (map view l.values)
