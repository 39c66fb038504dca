use Rattle.std.proofs.Common.{get_or, sym, ◌∙◌, ap, arith}
use Rattle.std.proofs.lemmas.List.{get_or_read}
use Rattle.vx_section.specs.Indices.{bytes_of, nothing, columns_of, index_at}
use Rattle.vx_section.proofs.Digits.{index_within, layer_within}
use Rattle.vx_section.proofs.Storing.{layers_told, side_told, read_place}
use Rattle.vx_section.proofs.sections.Sections.at.Goals as goal

pub section_at-section-requires : goal.section_at-section-requires
section_at-section-requires c =
    let near = rw (← c.self.view_is) at c.requires in
    let wide = c.self.inside.wide in
    let high = c.self.inside.high in
    layer_within wide high c.args.layer (layers_told wide high c.self.inside.sections c.args.layer near)

pub returns : goal.returns
returns c =
    let near = rw (← c.self.view_is) at c.requires in
    let wide = c.self.inside.wide in
    let high = c.self.inside.high in
    let ss = c.self.inside.sections in
    let i = index_at (columns_of wide) c.args.column c.args.layer c.args.row in
    let side = side_told wide high ss in
    let low = layers_told wide high ss c.args.layer near in
    let read = get_or_read ss _ _ (omega (arith, c.section_at-section.ensures.within, c.self.invariant.count)) c.index-self-section.is nothing in
    rw (← c.self.view_is) (c.get.ensures ∙ ap (λ s. get_or s.bytes c.place_at-place.result 0) (sym c.index-self-section.is)
    ∙ read_place wide high ss i _ _ _ (index_within wide high c.args.column c.args.layer c.args.row low) c.section_at-section.ensures.value (c.place_at-place.ensures.value wide) read
    ∙ ap (λ s. get_or (bytes_of wide high ss) (index_at s c.args.column c.args.layer c.args.row) 0) (sym side))
