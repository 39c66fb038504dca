use Rattle.std.proofs.Common.{◌≡◌, ◌&&◌, drop}
use Rattle.std.specs.List.{list_any}
use Rattle.vx_region.specs.Ancestry.{is_above}
use Rattle.vx_decide.specs.Cases.{case_of}
use Rattle.vx_decide.specs.Query.{speaks}
use Rattle.vx_decide.specs.RegionGroups.{is_above_one}
use Rattle.vx_decide.proofs.contest.Contest.is_above_speaking.Given as goal

-- whether there is one is still to be seen
abbrev pub invariant-loop-i : goal.invariant-loop-i
invariant-loop-i l =
    list_any (λ d. is_above l.self.inquiry.now.asker.now.regions.now l.number.0 d.1 && speaks l.self.question (case_of l.self.inquiry.now) d) (drop l.i l.self.inquiry.now.candidates)
    ≡ is_above_one (speaks l.self.question (case_of l.self.inquiry.now)) l.self.inquiry.now.asker.now.regions.now l.number.0
