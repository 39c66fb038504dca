use Rattle.std.proofs.Common.{ℕ, ltb, rules, of_calls}
use Rattle.std.proofs.lemmas.Fn.{always_returns_same}
use Rattle.vx_index.proofs.Runs.{rising_never_fall, run_before, run_past}
use Rattle.vx_index.proofs.tile.numbers_around.Goals as goal

pub returns-clause-before : goal.returns-clause-before
returns-clause-before c rising =
    run_before (λ (m : ℕ). m) c.args.number c.args.numbers.now (rising_never_fall c.args.numbers.now rising) c.partition_point-end.result c.partition_point-end.ensures.bound
    (c.partition_point-end.ensures.partitioned (λ m. ltb m c.args.number) (always_returns_same _ _ _ (λ a r f k. search (rules, of_calls))))

pub returns-clause-behind : goal.returns-clause-behind
returns-clause-behind c rising =
    run_past (λ (m : ℕ). m) c.args.number c.args.numbers.now (rising_never_fall c.args.numbers.now rising) c.partition_point-end.result c.past-start.result
    c.past-start.ensures.from c.past-start.ensures.within
    (c.partition_point-end.ensures.partitioned (λ m. ltb m c.args.number) (always_returns_same _ _ _ (λ a r f k. search (rules, of_calls))))
    c.past-start.ensures.run (λ d. c.past-start.ensures.stops d rising)
