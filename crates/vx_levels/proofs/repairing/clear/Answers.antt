use Rattle.std.proofs.Common.{sym, ◌∙◌}
use Rattle.std.proofs.lemmas.Result.{on_ok_weaker}
use Rattle.vx_levels.specs.Linked.{level_at}
use Rattle.vx_levels.proofs.Mending.{follows_put}
use Rattle.vx_levels.proofs.Packing.{put_again}
use Rattle.vx_levels.proofs.repairing.clear.Goals as goal

pub returns-then-at-eq0-clause-levels : goal.returns-then-at-eq0-clause-levels
returns-then-at-eq0-clause-levels c =
    put_again (level_at c.args.levels.now) c.args.p 0 (sym c.at.ensures.value ∙ c.if-at-eq0.true)

pub returns-clause-follows : goal.returns-clause-follows
returns-clause-follows c =
    on_ok_weaker c.put.result
    (follows_put c.args.put.now.items c.args.levels.now c.put.new.self c.in_ok-push.ensures.items)
    c.put.ensures.level
