use Rattle.std.proofs.Common.{◌≡◌, ◌-◌}
use Rattle.std.specs.List.{list_any}
use Rattle.vx_region.specs.Ancestry.{chain}
use Rattle.vx_region.specs.Association.{share_domain}
use Rattle.vx_region.specs.Domains.{lists_domain_of}
use Rattle.vx_region.proofs.region_set.RegionSet.share_domain.Given as goal

-- whether a region with such a domain comes is still to be seen
abbrev pub invariant-loop : goal.invariant-loop
invariant-loop l =
    list_any (lists_domain_of l.self l.fn.other.0) (chain (l.end - l.counter) l.self l.at.0) ≡ share_domain l.self l.fn.number.0 l.fn.other.0
