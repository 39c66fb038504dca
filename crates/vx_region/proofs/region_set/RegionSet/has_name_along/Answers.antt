use Rattle.std.proofs.Common.{◌∙◌, sym, ap, option_map, arith}
use Rattle.std.specs.List.{list_any}
use Rattle.vx_region.specs.Association.{has_name}
use Rattle.vx_region.proofs.Walks.{begin, any_next}
use Rattle.vx_region.proofs.region_set.RegionSet.has_name_along.Goals as goal

pub loop-init : goal.loop-init
loop-init c =
    begin (list_any (has_name c.args.self.now c.args.roster c.args.name.now.text.bytes)) c.args.self.now _ c.args.number.0
    (c.from-end.ensures ∙ c.last.ensures)

pub loop-preserved : goal.loop-preserved
loop-preserved c =
    sym (any_next (has_name c.args.self.now c.args.roster c.args.name.now.text.bytes) c.args.self.now _ _ c.loop.at.0 c.in-Some.parent.0 (omega arith)
    (sym c.naming_at-is_named.ensures.named ∙ c.if-is_named.false) (sym c.naming_at-is_named.ensures.parent ∙ ap (option_map (λ n. n.0)) c.in-Some.is))
    ∙ c.loop.invariant
