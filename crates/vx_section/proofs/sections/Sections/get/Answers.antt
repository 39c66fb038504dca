use Rattle.std.proofs.Common.{◌∙◌, ap, get_or, sym, arith}
use Rattle.std.proofs.lemmas.List.{get_or_read}
use Rattle.vx_section.specs.Indices.{nothing}
use Rattle.vx_section.proofs.Storing.{length-bytes_of, read_place, count_below}
use Rattle.vx_section.proofs.sections.Sections.get.Goals as goal

pub section_of-section-requires : goal.section_of-section-requires
section_of-section-requires c =
    let near = rw (← c.self.view_is) at c.requires in
    omega (arith, near, length-bytes_of c.self.inside.wide c.self.inside.high c.self.inside.sections, count_below c.self.inside.wide c.self.inside.high)

pub returns : goal.returns
returns c =
    let near = rw (← c.self.view_is) at c.requires in
    let wide = c.self.inside.wide in
    let high = c.self.inside.high in
    let ss = c.self.inside.sections in
    let read = get_or_read ss _ _ (omega (arith, c.section_of-section.ensures.within, c.self.invariant.count)) c.index-self-section.is nothing in
    rw (← c.self.view_is) (c.get.ensures ∙ ap (λ s. get_or s.bytes c.place_of-place.result 0) (sym c.index-self-section.is)
    ∙ read_place wide high ss c.args.index _ _ _ (omega (arith, near, length-bytes_of wide high ss)) c.section_of-section.ensures.value c.place_of-place.ensures.value read)
