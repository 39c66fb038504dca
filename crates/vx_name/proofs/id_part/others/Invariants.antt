use Rattle.std.proofs.Common.{◌≡◌, ◌++◌, drop}
use Rattle.std.specs.List.{filter}
use Rattle.vx_name.specs.IdUpdates.{is_other}
use Rattle.vx_name.proofs.id_part.others.Given as goal

-- the others so far, and those to come
abbrev pub invariant-loop-entry : goal.invariant-loop-entry
invariant-loop-entry l =
    l.others.items ++ filter (is_other l.id) (drop l.entry-index l.numbers) ≡ filter (is_other l.id) l.numbers
