use Rattle.std.proofs.Common.{◌≡◌, drop}
use Rattle.std.specs.Map.{lookup}
use Rattle.vx_name.specs.Ids.{same_id}
use Rattle.vx_name.proofs.id_part.number_of.Given as goal

-- the id is still to be found
abbrev pub invariant-loop-entry : goal.invariant-loop-entry
invariant-loop-entry l = lookup (same_id l.id) (drop l.entry-index l.numbers) ≡ lookup (same_id l.id) l.numbers
