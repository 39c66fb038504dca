use Rattle.std.proofs.Common.{◌≡◌, length, map}
use Rattle.toml.specs.View.{view}
use Rattle.vx_file.specs.FileValues.{columns_of}
use Rattle.vx_file.proofs.FileLists.{onto}
use Rattle.vx_file.proofs.values.each_column.Given as goal

-- what is left gives the columns that are missing
abbrev pub invariant-loop-rest : goal.invariant-loop-rest
invariant-loop-rest l = onto l.columns.items (columns_of (map view l.rest)) ≡ columns_of (map view l.values)

abbrev pub decreases-loop-rest : goal.decreases-loop-rest
decreases-loop-rest l = length l.rest
