use Rattle.std.proofs.Common.{◌≡◌, bytes_eq, drop}
use Rattle.std.specs.List.{list_any}
use Rattle.vx_name.proofs.name_set.is_one_of.Given as goal

-- whether the name comes is still to be seen
abbrev pub invariant-loop-other : goal.invariant-loop-other
invariant-loop-other l =
    list_any (λ k. bytes_eq l.name.text.bytes k.text.bytes) (drop l.other-index l.these)
    ≡ list_any (λ k. bytes_eq l.name.text.bytes k.text.bytes) l.these
