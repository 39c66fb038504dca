use Rattle.std.proofs.Common.{◌≡◌, [], set, sym, subst, ◌∙◌, ap}
use Rattle.std.specs.Arc.{arc_value}
use Rattle.vx_section.specs.Forms.{SectionData, with_byte, admitted, fresh, IsFull}
use Rattle.vx_section.specs.Kept.{shown}
use Rattle.vx_section.proofs.Widening.{one_grown, few_grown}
use Rattle.vx_section.proofs.section.Section.wider.Goals as goal
use Rattle.vx_section.proofs.section.Section.wider.Goals.{in-One+in_ok-with_second-in-One, in-Few+in_ok-widened-in-Few}

pub returns : goal.returns
returns c =
    let place = c.args.place in
    let byte = c.args.byte in
    let after = λ (s : SectionData). with_byte (admitted s byte) place byte in
    elim c.match-self.branch [
      | in-One+in_ok-with_second-in-One w ↦
          let e : fresh w.in-One.old ≡ c.args.self.now = ap shown (sym w.in-One.is) ∙ c.self.view_is in
          let full = subst (λ s. IsFull s byte) (sym e) c.requires.full in
          ap shown w.kept-is ∙ w.in_ok-with_second-in-One.ensures ∙ sym (one_grown w.in-One.old byte place full) ∙ ap after e
      | in-Few+in_ok-widened-in-Few w ↦
          let few = arc_value w.in-Few.few in
          let e : few ≡ c.args.self.now = ap shown (sym w.in-Few.is) ∙ c.self.view_is in
          let full = subst (λ s. IsFull s byte) (sym e) c.requires.full in
          let is = w.deref.ensures in
          let bytes = w.in_ok-widened-in-Few.ensures.bytes ∙ ap (λ (s : SectionData). set s.bytes place byte) is in
          let two = ap (λ (s : SectionData). s.form) (sym is) ∙ w.widened.ensures.form in
          ap shown w.kept-is ∙ (λ i. record { bytes = bytes i; form = 3; palette = [] }) ∙ sym (few_grown few byte place two full) ∙ ap after e
    ]
