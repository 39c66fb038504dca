use Rattle.std.proofs.Common.{◌≡◌, ◌&&◌, drop}
use Rattle.std.specs.List.{list_any}
use Rattle.vx_geom.specs.Outline.{is_in}
use Rattle.vx_region.specs.Association.{share_domain}
use Rattle.vx_region.proofs.region_set.RegionSet.stands_in_one_of.Given as goal

-- whether such a region comes is still to be seen
abbrev pub invariant-loop-i : goal.invariant-loop-i
invariant-loop-i l =
    list_any (λ e. is_in e.1.shape l.place && share_domain l.self e.0 l.number.0) (drop l.i l.self.entries)
    ≡ list_any (λ e. is_in e.1.shape l.place && share_domain l.self e.0 l.number.0) l.self.entries
