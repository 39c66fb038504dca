use Rattle.std.proofs.Common.{◌≡◌, ◌-◌}
use Rattle.std.specs.List.{list_any}
use Rattle.vx_region.specs.Ancestry.{chain, ancestors}
use Rattle.vx_region.specs.Association.{has_name}
use Rattle.vx_region.proofs.region_set.RegionSet.has_name_along.Given as goal

-- whether such a region comes is still to be seen
abbrev pub invariant-loop : goal.invariant-loop
invariant-loop l =
    list_any (has_name l.self l.roster l.name.text.bytes) (chain (l.end - l.counter) l.self l.at.0)
    ≡ list_any (has_name l.self l.roster l.name.text.bytes) (ancestors l.self l.fn.number.0)
