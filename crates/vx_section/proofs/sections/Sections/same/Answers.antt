use Rattle.std.proofs.Common.{◌≡◌, sym, subst, ◌∙◌, ap}
use Rattle.vx_section.specs.Indices.{bytes_of, AreSame}
use Rattle.vx_section.proofs.Comparing.{same_bytes, same_each, one_shape, same_test, never_same, untrue}
use Rattle.vx_section.proofs.sections.Sections.same.Goals.{then-self-other-via-then-self-other, then-self-other-via-else-self-other+then-self-other-2}
use Rattle.vx_section.proofs.sections.Sections.same.Goals as goal

pub returns-then-self-other : goal.returns-then-self-other
returns-then-self-other c =
    let mine = c.self.inside in
    let its = c.other.inside in (
      λ never. untrue c.args.self.now c.args.other.now never,
      λ same.
          let shape = one_shape mine.wide mine.high its.wide its.high mine.sections its.sections (c.self.view_is ∙ same ∙ sym c.other.view_is) in
          elim c.then-self-other.branch [
            | then-self-other-via-then-self-other w ↦ never_same mine.wide its.wide w.if-self-other.true shape.0
            | then-self-other-via-else-self-other+then-self-other-2 w ↦ never_same mine.high its.high w.if-self-other-2.true shape.1
          ],
    )

pub returns : goal.returns
returns c =
    let mine = c.self.inside in
    let its = c.other.inside in
    let width : its.wide ≡ mine.wide = same_test mine.wide its.wide c.if-self-other.false in
    let height : its.high ≡ mine.high = same_test mine.high its.high c.if-self-other-2.false in
    let seen : bytes_of mine.wide mine.high its.sections ≡ c.args.other.now = ap (λ w. bytes_of w mine.high its.sections) (sym width) ∙ ap (λ h. bytes_of its.wide h its.sections) (sym height) ∙ c.other.view_is in
    let count = c.section_count.ensures.value in
    let each = c.all_same.ensures in (
      λ told. sym c.self.view_is ∙ same_bytes mine.wide mine.high mine.sections its.sections (subst (λ n. AreSame n mine.sections its.sections) count (each.0 told)) ∙ seen,
      λ same. each.1 (subst (λ n. AreSame n mine.sections its.sections) (sym count)
          (same_each mine.wide mine.high mine.sections its.sections c.self.invariant c.other.invariant (c.self.view_is ∙ same ∙ sym seen))),
    )
