use Rattle.std.proofs.Common.{◌≡◌, ◌-◌, nat_eq}
use Rattle.std.specs.List.{list_any}
use Rattle.vx_region.specs.Ancestry.{chain, ancestors}
use Rattle.vx_region.proofs.region_set.RegionSet.under.Given as goal

-- whether the ancestor comes is still to be seen
abbrev pub invariant-loop : goal.invariant-loop
invariant-loop l = list_any (nat_eq l.ancestor.0) (chain (l.end - l.counter) l.self l.at.0) ≡ list_any (nat_eq l.ancestor.0) (ancestors l.self l.fn.number.0)
