use Rattle.std.proofs.Common.{◌≡◌, drop}
use Rattle.vx_decide.specs.Cases.{case_of}
use Rattle.vx_decide.specs.Build.{is_failing, first_failing}
use Rattle.vx_decide.specs.RegionGroups.{least}
use Rattle.vx_decide.proofs.building.Building.first_failing.Given as goal

-- no region so far is one
abbrev pub invariant-loop-i : goal.invariant-loop-i
invariant-loop-i l = least (is_failing (case_of l.self.contest.inquiry.now)) (drop l.i l.self.contest.inquiry.now.candidates) ≡ first_failing (case_of l.self.contest.inquiry.now)
