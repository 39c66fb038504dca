use Rattle.std.proofs.Common.{◌<◌, ◌∙◌, ap, sym, subst, length, take, set, arith}
use Rattle.std.proofs.lemmas.List.{length-take-le, get_or-take}
use Rattle.vx_section.specs.Forms.{SectionData, unpacked}
use Rattle.vx_section.proofs.few.Few.put.Goals as goal

pub invariant_of-self : goal.invariant_of-self
invariant_of-self c =
    let few = c.self.inside in
    let held = c.self.invariant in
    let low : c.args.number < length (take few.used few.palette) = subst (λ (s : SectionData). c.args.number < length s.palette) (sym c.self.view_is) c.requires.known in
    let near : c.args.number < few.used = omega (arith, held.kinds, held.most, length-take-le few.used few.palette) in
    record {
      kinds = held.kinds;
      some = held.some;
      most = held.most;
      whole = c.set_number.ensures.length ∙ held.whole;
      numbers = c.set_number.ensures.kept few.used near held.numbers;
    }

pub returns : goal.returns
returns c =
    let few = c.self.inside in
    let held = c.self.invariant in
    let low : c.args.number < length (take few.used few.palette) = subst (λ (s : SectionData). c.args.number < length s.palette) (sym c.self.view_is) c.requires.known in
    let near : c.args.number < few.used = omega (arith, held.kinds, held.most, length-take-le few.used few.palette) in
    let bytes = c.set_number.ensures.bytes few.palette
    ∙ ap (set (unpacked few.palette few.pairs) c.args.place) (sym (get_or-take few.used few.palette c.args.number 0 near)) in
    rw (← c.self.view_is) (λ i. record { bytes = bytes i; form = 2; palette = take few.used few.palette })
