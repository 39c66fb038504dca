use Rattle.std.proofs.Common.{nat_eq, ◌∙◌, sym, arith}
use Rattle.std.specs.List.{list_any}
use Rattle.vx_region.proofs.Walks.{begin, any_next}
use Rattle.vx_region.proofs.region_set.RegionSet.under.Goals as goal

pub loop-init : goal.loop-init
loop-init c = begin (list_any (nat_eq c.args.ancestor.0)) c.args.self.now _ c.args.number.0 (c.from-end.ensures ∙ c.last.ensures)

pub loop-preserved : goal.loop-preserved
loop-preserved c =
    sym (any_next (nat_eq c.args.ancestor.0) c.args.self.now _ _ c.loop.at.0 c.in-Some.parent.0 (omega arith) (sym c.eq.ensures ∙ c.if-eq.false) (sym c.in-Some.ensures))
    ∙ c.loop.invariant
