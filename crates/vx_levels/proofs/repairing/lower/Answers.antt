use Rattle.std.proofs.Common.{arith}
use Rattle.std.proofs.lemmas.Result.{on_ok_weaker}
use Rattle.vx_levels.proofs.Keeping.{on_ok_both, on_ok_three, taken_falling, now_rising}
use Rattle.vx_levels.proofs.Mending.{agreed_right, waits_right, lowered_right, follows_put}
use Rattle.vx_levels.proofs.repairing.lower.Goals as goal

pub returns-then-told-was-clause-right : goal.returns-then-told-was-clause-right
returns-then-told-was-clause-right c =
    on_ok_three c.fall.result
    (λ stay. lowered_right (taken_falling c.args.pending.now c.args.p) c.requires.right c.requires.fed c.requires.dust
    c.at-was.ensures.value c.told_level-told.ensures.value
    c.fall.new.levels c.fall.new.pending stay (omega arith))
    c.fall.ensures.links c.fall.ensures.levels c.fall.ensures.pending

pub returns-then-told-was-clause-follows : goal.returns-then-told-was-clause-follows
returns-then-told-was-clause-follows c =
    on_ok_both c.fall.result (follows_put c.args.put.now.items c.args.levels.now c.fall.new.levels)
    c.fall.ensures.put c.fall.ensures.levels

pub returns-then-was-told-clause-right : goal.returns-then-was-told-clause-right
returns-then-was-told-clause-right c =
    on_ok_weaker c.add_rising.result
    (λ is. waits_right (taken_falling c.args.pending.now c.args.p) c.requires.right c.requires.fed c.requires.dust
    c.at-was.ensures.value c.told_level-told.ensures.value
    c.add_rising.new.self (now_rising c.args.pending.now c.args.p c.add_rising.new.self is))
    c.add_rising.ensures

pub returns-else-was-told-clause-right : goal.returns-else-was-told-clause-right
returns-else-was-told-clause-right c =
    agreed_right (taken_falling c.args.pending.now c.args.p) c.requires.right c.requires.fed c.requires.dust
    c.at-was.ensures.value c.told_level-told.ensures.value (omega arith)
