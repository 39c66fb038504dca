use Rattle.std.proofs.Common.{◌≡◌, ℕ, ◌∙◌}
use Rattle.std.proofs.lemmas.List.Elements.{same_from_all_zip}
use Rattle.vx_store.specs.Chests.{Slots}
use Rattle.vx_store.proofs.Stacks.{copied_slot}
use Rattle.vx_store.proofs.chests.ChestsClone.clone.Goals as goal

pub returns : goal.returns
returns c = record {
  cases = same_from_all_zip {X = ℕ × Slots} _ _ _ c.in_ok-clone.ensures.cases
      (λ p q copied.
      let index : q.0 ≡ p.0 = copied.0 in
      let slots : q.1 ≡ p.1 = same_from_all_zip _ p.1 q.1 copied.1.whole (copied_slot _ (λ s t h. h) (λ s h. h) (λ s h. h)) in
      λ i. (index i, slots i)) ∙ c.self.view_is;
}
