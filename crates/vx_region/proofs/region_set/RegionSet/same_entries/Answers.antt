use Rattle.std.proofs.Common.{sym, ◌∙◌}
use Rattle.vx_region.specs.SameRegions.{same_entry}
use Rattle.vx_region.proofs.SameLists.{same_stops, same_next}
use Rattle.vx_region.proofs.region_set.RegionSet.same_entries.Goals as goal

pub returns-then-not-same_entry : goal.returns-then-not-same_entry
returns-then-not-same_entry c =
    sym (same_stops same_entry c.args.self.now.entries c.args.other.now.entries c.loop-i.i _ _ c.nth.ensures c.nth-in-loop-i.ensures
    (sym c.same_entry.ensures ∙ c.if-not-same_entry.true)) ∙ c.loop-i.invariant

pub loop-i-preserved : goal.loop-i-preserved
loop-i-preserved c =
    sym (same_next same_entry c.args.self.now.entries c.args.other.now.entries c.loop-i.i _ _ c.nth.ensures c.nth-in-loop-i.ensures
    (sym c.same_entry.ensures ∙ c.if-not-same_entry.false)) ∙ c.loop-i.invariant
