use Rattle.std.proofs.Common.{◌≡◌, drop}
use Rattle.vx_decide.specs.Cases.{case_of}
use Rattle.vx_decide.specs.Query.{is_denying, first_denying}
use Rattle.vx_decide.specs.RegionGroups.{least}
use Rattle.vx_decide.proofs.contest.Contest.first_denying.Given as goal

-- no region so far is one
abbrev pub invariant-loop-i : goal.invariant-loop-i
invariant-loop-i l = least (is_denying l.self.question (case_of l.self.inquiry.now)) (drop l.i l.self.inquiry.now.candidates) ≡ first_denying l.self.question (case_of l.self.inquiry.now)
