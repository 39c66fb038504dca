use Rattle.std.proofs.Common.{◌∙◌, sym, ap, option_map, arith}
use Rattle.std.specs.List.{list_any}
use Rattle.vx_region.specs.Domains.{lists_domains}
use Rattle.vx_region.proofs.Walks.{begin, any_next}
use Rattle.vx_region.proofs.region_set.RegionSet.lists_domains_along.Goals as goal

pub loop-init : goal.loop-init
loop-init c = begin (list_any (lists_domains c.args.self.now)) c.args.self.now _ c.args.number.0 (c.from-end.ensures ∙ c.last.ensures)

pub loop-preserved : goal.loop-preserved
loop-preserved c =
    sym (any_next (lists_domains c.args.self.now) c.args.self.now _ _ c.loop.at.0 c.in-Some.parent.0 (omega arith)
    (sym c.listing_at-lists_some.ensures.some ∙ c.if-lists_some.false) (sym c.listing_at-lists_some.ensures.parent ∙ ap (option_map (λ n. n.0)) c.in-Some.is))
    ∙ c.loop.invariant
