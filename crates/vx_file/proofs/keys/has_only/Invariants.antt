use Rattle.std.proofs.Common.{◌≡◌, map}
use Rattle.toml.specs.View.{members_view}
use Rattle.vx_file.specs.FileValues.{has_only}
use Rattle.vx_file.proofs.keys.has_only.Given as goal

-- every key so far is among those known
abbrev pub invariant-keys : goal.invariant-keys
invariant-keys l =
    (goal.iterator-keys).can_next l.key-iterator × (goal.iterator-keys).is_finite l.key-iterator
    × (has_only (map (λ k. k.now) l.fn.keys) (members_view l.key-iterator) ≡ has_only (map (λ k. k.now) l.fn.keys) (members_view l.fn.table.entries))
