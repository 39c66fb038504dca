use Rattle.std.proofs.Common.{refl, get_or, sym, ◌∙◌, ap, arith}
use Rattle.std.proofs.lemmas.List.{ext_get_or}
use Rattle.vx_section.proofs.Comparing.{untrue}
use Rattle.vx_section.proofs.section.Section.same_places.Goals as goal

pub returns-then-get : goal.returns-then-get
returns-then-get c = (
  λ never. untrue c.args.self.now.bytes c.args.other.now.bytes never,
  λ same. absurd (c.if-get.true (c.get.ensures ∙ ap (λ bs. get_or bs c.loop-place.place 0) same ∙ sym c.get-in-loop-place.ensures)),
)

pub returns : goal.returns
returns c = (
  λ _. ext_get_or 0 _ _ (c.soundness.ensures ∙ sym c.soundness-2.ensures)
      (λ k low. c.loop-place.invariant k (omega (arith, low, c.loop-place-test.false, c.soundness.ensures))),
  λ _. refl,
)
