use Rattle.std.proofs.Common.{◌≡◌, ◌<◌, length, get_or, set, sym, ◌∙◌, ap, arith}
use Rattle.std.proofs.lemmas.List.{get_or_read}
use Rattle.std.proofs.lemmas.Result.{on_ok_weaker}
use Rattle.vx_section.specs.declared.sections.TheConstants.{MOST_SECTIONS}
use Rattle.vx_section.specs.Indices.{nothing, section_of, place_of}
use Rattle.vx_section.proofs.Admitting.{admitted_same}
use Rattle.vx_section.proofs.Storing.{length-bytes_of, bytes_set, count_below}
use Rattle.vx_section.proofs.sections.Sections.set.Goals as goal

pub section_of-section-requires : goal.section_of-section-requires
section_of-section-requires c =
    let near = rw (← c.self.view_is) at c.requires in
    omega (arith, near, length-bytes_of c.self.inside.wide c.self.inside.high c.self.inside.sections, count_below c.self.inside.wide c.self.inside.high)

pub returns-clause-ok : goal.returns-clause-ok
returns-clause-ok c =
    let near = rw (← c.self.view_is) at c.requires in
    let wide = c.self.inside.wide in
    let high = c.self.inside.high in
    let ss = c.self.inside.sections in
    let i = c.args.index in
    let byte = c.args.byte in
    let k = c.section_of-section.result in
    let place = c.place_of-place.result in
    let there : k < MOST_SECTIONS = c.section_of-section.ensures.within in
    let within : k < length ss = omega (arith, there, c.self.invariant.count) in
    let sec : k ≡ section_of wide i = c.section_of-section.ensures.value in
    let pla : place ≡ place_of wide i = c.place_of-place.ensures.value in
    let read = sym c.index-self-section.is ∙ get_or_read ss _ _ within c.index-self-section.is nothing in
    let long = c.self.invariant.long k there in
    on_ok_weaker c.set.result (λ h.
    let new : c.set.new.self.bytes ≡ set (get_or ss k nothing).bytes place byte = ap (λ s. s.bytes) h ∙ ap (λ bs. set bs place byte) (admitted_same (get_or ss k c.index-self-section.result) byte ∙ ap (λ s. s.bytes) read) in
    rw (← c.self.view_is) (bytes_set wide high ss i byte k place c.set.new.self (omega (arith, near, length-bytes_of wide high ss)) within sec pla
    (omega (arith, long, c.place_of-place.ensures.within)) new)) c.set.ensures.ok
