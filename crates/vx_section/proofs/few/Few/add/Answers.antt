use Rattle.std.proofs.Common.{◌<◌, sym, subst, length, take, set, arith}
use Rattle.std.proofs.lemmas.List.{take_more_set, length-take-le, get_or-set_other}
use Rattle.vx_section.specs.Forms.{SectionData}
use Rattle.vx_section.proofs.Pairing.{same_unpacked}
use Rattle.vx_section.proofs.few.Few.add.Goals as goal

pub returns-clause-palette : goal.returns-clause-palette
returns-clause-palette c =
    let few = c.self.inside in
    let held = c.self.invariant in
    let room : length (take few.used few.palette) < 16 = subst (λ (s : SectionData). length s.palette < 16) (sym c.self.view_is) c.requires in
    let near : few.used < length few.palette = omega (arith, held.kinds, held.most, length-take-le few.used few.palette) in
    let bytes = same_unpacked (set few.palette few.used c.args.byte) few.palette few.pairs few.used (λ k low. get_or-set_other few.palette few.used k c.args.byte 0 (omega arith)) held.numbers in
    let palette = take_more_set few.palette few.used c.args.byte near in
    rw (← c.self.view_is) (λ i. record { bytes = bytes i; form = 2; palette = palette i })
