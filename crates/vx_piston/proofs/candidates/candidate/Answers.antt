use Rattle.std.proofs.Common.{sym, ◌∙◌}
use Rattle.vx_piston.proofs.Restless.{others_stay, candidate_by}
use Rattle.vx_piston.proofs.candidates.candidate.Goals as goal

pub returns-then-is_restless-clause-exact : goal.returns-then-is_restless-clause-exact
returns-then-is_restless-clause-exact g c near =
    c.asked_by.ensures (g.L.Leveled.level c.args.levels.now) (sym c.if-is_restless.ensures)
    ∙ candidate_by c.args.map.now (g.L.Leveled.level c.args.levels.now) c.args.p near

pub returns-else-is_restless-clause-by_levels : goal.returns-else-is_restless-clause-by_levels
returns-else-is_restless-clause-by_levels g c =
    sym (others_stay c.args.map.now (g.L.Leveled.level c.args.levels.now) c.args.p
    (sym c.if-is_restless.ensures))

pub returns-else-is_restless-clause-exact : goal.returns-else-is_restless-clause-exact
returns-else-is_restless-clause-exact g c near =
    returns-else-is_restless-clause-by_levels g c
    ∙ candidate_by c.args.map.now (g.L.Leveled.level c.args.levels.now) c.args.p near
