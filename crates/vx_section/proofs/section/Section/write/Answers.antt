use Rattle.std.proofs.Common.{◌≡◌, true, [], sym, subst, ◌∙◌, ap, IfOk}
use Rattle.std.specs.Arc.{arc_value}
use Rattle.std.proofs.lemmas.Result.{IfOk-weaker}
use Rattle.vx_section.specs.Forms.{SectionData, with_byte, admitted, fresh}
use Rattle.vx_section.specs.Kept.{shown}
use Rattle.vx_section.specs.declared.section.Form.TheVariants.{Each}
use Rattle.vx_section.proofs.Widening.{one_again}
use Rattle.vx_section.proofs.section.Section.write.Goals as goal
use Rattle.vx_section.proofs.section.Section.write.Goals.{in-One, in-Few, in-Each+in_ok-write_each-in-Each}

pub returns-clause-done : goal.returns-clause-done
returns-clause-done c =
    let place = c.args.place in
    let byte = c.args.byte in
    let after = λ (s : SectionData). with_byte (admitted s byte) place byte in
    elim c.match-self.branch [
      | in-One w ↦
          let e : fresh w.in-One.old ≡ c.args.self.now = ap shown (sym w.in-One.is) ∙ c.self.view_is in
          subst (λ r. IfOk r (λ done. done ≡ true → shown c.match-self.self-inside.kept ≡ after c.args.self.now)) (sym w.result-is)
          (λ same. ap (λ s. shown s.kept) w.self-inside-is ∙ one_again w.in-One.old byte place c.requires same ∙ ap after e)
      | in-Few w ↦
          let e : arc_value w.in-Few.few ≡ c.args.self.now = ap shown (sym w.in-Few.is) ∙ c.self.view_is in
          subst (λ r. IfOk r (λ done. done ≡ true → shown c.match-self.self-inside.kept ≡ after c.args.self.now)) (sym w.result-is)
          (IfOk-weaker w.write_few.result _ _ (λ done h is. ap (λ s. shown s.kept) w.self-inside-is ∙ h is ∙ ap after e) w.write_few.ensures.done)
      | in-Each+in_ok-write_each-in-Each w ↦
          let e : shown (Each w.in-Each.bytes) ≡ c.args.self.now = ap shown (sym w.in-Each.is) ∙ c.self.view_is in
          subst (λ r. IfOk r (λ done. done ≡ true → shown c.match-self.self-inside.kept ≡ after c.args.self.now)) (sym w.result-is)
          (λ _. ap (λ s. shown s.kept) w.self-inside-is ∙ (λ i. record { bytes = w.in_ok-write_each-in-Each.ensures.ok i; form = 3; palette = [] }) ∙ ap after e)
    ]
