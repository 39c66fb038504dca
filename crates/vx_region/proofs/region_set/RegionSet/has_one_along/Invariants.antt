use Rattle.std.proofs.Common.{◌≡◌, drop}
use Rattle.std.specs.List.{list_any}
use Rattle.vx_region.specs.Association.{has_domain_along}
use Rattle.vx_region.proofs.region_set.RegionSet.has_one_along.Given as goal

-- whether such a domain comes is still to be seen
abbrev pub invariant-loop-domain : goal.invariant-loop-domain
invariant-loop-domain l =
    list_any (λ d. has_domain_along l.self d.text.bytes l.number.0) (drop l.domain-index l.domains)
    ≡ list_any (λ d. has_domain_along l.self d.text.bytes l.number.0) l.domains
