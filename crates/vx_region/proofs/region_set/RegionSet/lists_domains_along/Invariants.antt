use Rattle.std.proofs.Common.{◌≡◌, ◌-◌}
use Rattle.std.specs.List.{list_any}
use Rattle.vx_region.specs.Ancestry.{chain, ancestors}
use Rattle.vx_region.specs.Domains.{lists_domains}
use Rattle.vx_region.proofs.region_set.RegionSet.lists_domains_along.Given as goal

-- whether a region with a domain comes is still to be seen
abbrev pub invariant-loop : goal.invariant-loop
invariant-loop l = list_any (lists_domains l.self) (chain (l.end - l.counter) l.self l.at.0) ≡ list_any (lists_domains l.self) (ancestors l.self l.fn.number.0)
