use Rattle.std.proofs.Common.{sym, ◌++◌, ◌∙◌}
use Rattle.vx_cells.specs.Maps.{cell_on}
use Rattle.vx_levels.proofs.Keeping.{side_links}
use Rattle.vx_levels.proofs.Packing.{linked_sides}
use Rattle.vx_levels.proofs.links_nearby.links_nearby.Goals as goal

pub returns-clause-links : goal.returns-clause-links
returns-clause-links c =
    let east = c.bits_nearby-east.ensures in
    let west = c.bits_nearby-west.ensures in
    let south = c.bits_nearby-south.ensures in
    let north = c.bits_nearby-north.ensures in
    linked_sides c.bits_nearby-east.result c.bits_nearby-west.result c.bits_nearby-south.result c.bits_nearby-north.result c.args.p
    east.few west.few south.few north.few
    ∙ (λ i. east.links i ++ (west.links i ++ (south.links i ++ north.links i)))
    ∙ sym (side_links (cell_on c.args.map.now) c.args.p c.requires.dust)
