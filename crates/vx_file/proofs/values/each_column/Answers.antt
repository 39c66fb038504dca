use Rattle.std.proofs.Common.{sym, ◌∙◌}
use Rattle.vx_file.proofs.FileLists.{columns_odd}
use Rattle.vx_file.proofs.values.each_column.Goals as goal

pub returns-else-is_empty : goal.returns-else-is_empty
returns-else-is_empty c _ = columns_odd c.loop-rest.columns.items c.loop-rest.rest.now _ c.in_default.len_below (sym c.is_empty.ensures ∙ c.if-is_empty.false) c.loop-rest.invariant
