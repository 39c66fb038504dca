use Rattle.std.proofs.Common.{arith}
use Rattle.std.proofs.lemmas.Result.{on_ok_weaker}
use Rattle.vx_levels.proofs.Keeping.{on_ok_both, on_ok_three, taken_rising, now_falling}
use Rattle.vx_levels.proofs.Mending.{agreed_right, waits_right, lifted_right, follows_put}
use Rattle.vx_levels.proofs.repairing.lift.Goals as goal

pub returns-then-was-told-clause-right : goal.returns-then-was-told-clause-right
returns-then-was-told-clause-right c =
    on_ok_three c.rise.result
    (λ stay. lifted_right (taken_rising c.args.pending.now c.args.p) c.requires.right c.requires.fed c.requires.dust
    c.at-was.ensures.value c.told_level-told.ensures.value
    c.rise.new.levels c.rise.new.pending stay (omega arith))
    c.rise.ensures.links c.rise.ensures.levels c.rise.ensures.pending

pub returns-then-was-told-clause-follows : goal.returns-then-was-told-clause-follows
returns-then-was-told-clause-follows c =
    on_ok_both c.rise.result (follows_put c.args.put.now.items c.args.levels.now c.rise.new.levels)
    c.rise.ensures.put c.rise.ensures.levels

pub returns-then-told-was-clause-right : goal.returns-then-told-was-clause-right
returns-then-told-was-clause-right c =
    on_ok_weaker c.add_falling.result
    (λ is. waits_right (taken_rising c.args.pending.now c.args.p) c.requires.right c.requires.fed c.requires.dust
    c.at-was.ensures.value c.told_level-told.ensures.value
    c.add_falling.new.self (now_falling c.args.pending.now c.args.p c.add_falling.new.self is))
    c.add_falling.ensures

pub returns-else-told-was-clause-right : goal.returns-else-told-was-clause-right
returns-else-told-was-clause-right c =
    agreed_right (taken_rising c.args.pending.now c.args.p) c.requires.right c.requires.fed c.requires.dust
    c.at-was.ensures.value c.told_level-told.ensures.value (omega arith)
