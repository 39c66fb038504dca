use Rattle.std.proofs.Common.{sym, ◌++◌, ◌∙◌}
use Rattle.vx_cells.specs.Maps.{cell_on}
use Rattle.vx_levels.proofs.Keeping.{side_links}
use Rattle.vx_levels.proofs.Packing.{linked_sides}
use Rattle.vx_levels.proofs.links.links_anywhere.Goals as goal

pub returns-clause-links : goal.returns-clause-links
returns-clause-links c =
    let east = c.bits_on-east.ensures in
    let west = c.bits_on-west.ensures in
    let south = c.bits_on-south.ensures in
    let north = c.bits_on-north.ensures in
    linked_sides c.bits_on-east.result c.bits_on-west.result c.bits_on-south.result c.bits_on-north.result c.args.p
    east.few west.few south.few north.few
    ∙ (λ i. east.links i ++ (west.links i ++ (south.links i ++ north.links i)))
    ∙ sym (side_links (cell_on c.args.map.now) c.args.p c.requires)
