use Rattle.std.proofs.Common.{rules, ap, sym, ◌∙◌}
use Rattle.std.specs.Ordering.{is_lt}
use Rattle.std.proofs.lemmas.List.Sorted.{answers_always}
use Rattle.vx_geom.proofs.OrderLemmas.{derived_cmp}
use Rattle.vx_piston.specs.Moves.{Moving}
use Rattle.vx_tick.proofs.found.sort_moves.Goals as goal

pub returns : goal.returns
returns c =
    let sorted = c.sort_unstable_by_key.ensures.sorted (λ (m : Moving). m.at) (answers_always _ _ _ (λ f a r g h. search rules)) in
    record {
      all = c.sort_unstable_by_key.ensures.permutation;
      ordered = λ k d least within. ap is_lt (sym (derived_cmp _ _)) ∙ sorted k d least within;
    }
