use Rattle.std.proofs.Common.{ltb, rules, of_calls}
use Rattle.std.proofs.lemmas.Fn.{always_returns_same}
use Rattle.vx_index.specs.declared.patch.Patch.{Patch}
use Rattle.vx_index.proofs.Orders.{never_fall}
use Rattle.vx_index.proofs.Runs.{run_before, run_past}
use Rattle.vx_index.proofs.tile.patches_around.Goals as goal

pub returns-clause-before : goal.returns-clause-before
returns-clause-before c ordered =
    run_before (λ (d : Patch). d.number) c.args.number c.args.patches.now (never_fall 0 c.args.patches.now ordered) c.partition_point-end.result c.partition_point-end.ensures.bound
    (c.partition_point-end.ensures.partitioned (λ d. ltb d.number c.args.number) (always_returns_same _ _ _ (λ a r f k. search (rules, of_calls))))

pub returns-clause-behind : goal.returns-clause-behind
returns-clause-behind c ordered =
    run_past (λ (d : Patch). d.number) c.args.number c.args.patches.now (never_fall 0 c.args.patches.now ordered) c.partition_point-end.result c.end_of_run-start.result
    c.end_of_run-start.ensures.from c.end_of_run-start.ensures.within
    (c.partition_point-end.ensures.partitioned (λ d. ltb d.number c.args.number) (always_returns_same _ _ _ (λ a r f k. search (rules, of_calls))))
    c.end_of_run-start.ensures.run c.end_of_run-start.ensures.stops
