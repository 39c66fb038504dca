use Rattle.std.proofs.Common.{◌≡◌}
use Rattle.toml.specs.View.{members_view}
use Rattle.vx_file.specs.FileValues.{has_only_flags}
use Rattle.vx_file.proofs.keys.has_only_flags.Given as goal

-- every key so far is the text of a flag
abbrev pub invariant-keys : goal.invariant-keys
invariant-keys l =
    (goal.iterator-keys).can_next l.key-iterator × (goal.iterator-keys).is_finite l.key-iterator
    × (has_only_flags (members_view l.key-iterator) ≡ has_only_flags (members_view l.fn.table.entries))
