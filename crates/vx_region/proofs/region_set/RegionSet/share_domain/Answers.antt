use Rattle.std.proofs.Common.{◌∙◌, sym, ap, option_map, arith}
use Rattle.std.specs.List.{list_any}
use Rattle.vx_region.specs.Domains.{lists_domain_of}
use Rattle.vx_region.proofs.SharedDomains.{shared_along}
use Rattle.vx_region.proofs.Walks.{begin, any_next}
use Rattle.vx_region.proofs.region_set.RegionSet.share_domain.Goals as goal

pub loop-init : goal.loop-init
loop-init c =
    begin (list_any (lists_domain_of c.args.self.now c.args.other.0)) c.args.self.now _ c.args.number.0 (c.from-end.ensures ∙ c.last.ensures)
    ∙ shared_along c.args.self.now c.args.number.0 c.args.other.0

pub loop-preserved : goal.loop-preserved
loop-preserved c =
    sym (any_next (lists_domain_of c.args.self.now c.args.other.0) c.args.self.now _ _ c.loop.at.0 c.in-Some.parent.0 (omega arith)
    (sym c.sharing_at-is_shared.ensures.shared ∙ c.if-is_shared.false) (sym c.sharing_at-is_shared.ensures.parent ∙ ap (option_map (λ n. n.0)) c.in-Some.is))
    ∙ c.loop.invariant
