use Rattle.std.proofs.Common.{◌≡◌, drop}
use Rattle.vx_decide.specs.Cases.{case_of}
use Rattle.vx_decide.specs.Build.{is_home, first_home}
use Rattle.vx_decide.specs.RegionGroups.{least}
use Rattle.vx_decide.proofs.building.Building.first_home.Given as goal

-- no region so far is one
abbrev pub invariant-loop-i : goal.invariant-loop-i
invariant-loop-i l = least (is_home (case_of l.self.contest.inquiry.now)) (drop l.i l.self.contest.inquiry.now.candidates) ≡ first_home (case_of l.self.contest.inquiry.now)
