use Rattle.std.proofs.Common.{◌≡◌, drop}
use Rattle.vx_decide.specs.Cases.{case_of}
use Rattle.vx_decide.specs.Query.{counts}
use Rattle.vx_decide.specs.Tops.{top_from, top}
use Rattle.vx_decide.proofs.inquiry.Inquiry.top.Given as goal

-- the best so far and those that are left give the greatest of all
abbrev pub invariant-loop-i : goal.invariant-loop-i
invariant-loop-i l =
    top_from (counts l.question (case_of l.self)) l.best (drop l.i l.self.candidates) ≡ top (counts l.question (case_of l.self)) l.self.asker.now.regions.now.entries
