use Rattle.std.proofs.Common.{◌≡◌, ◌&&◌, drop}
use Rattle.std.specs.List.{list_any}
use Rattle.vx_geom.specs.Outline.{is_in}
use Rattle.vx_region.specs.Association.{share_domain, stands_in_domain}
use Rattle.vx_decide.proofs.asker.Asker.stands_in_host.Given as goal

-- whether such a host comes is still to be seen
abbrev pub invariant-loop-i : goal.invariant-loop-i
invariant-loop-i l =
    list_any (λ e. is_in e.1.shape l.place && share_domain l.self.regions.now e.0 l.number.0) (drop l.i l.self.hosts)
    ≡ stands_in_domain l.self.regions.now l.place l.number.0
