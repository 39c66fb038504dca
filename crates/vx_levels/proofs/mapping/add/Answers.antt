use Rattle.std.proofs.Common.{◌≡◌, true, false, ◌∙◌}
use Rattle.vx_block.specs.Components.{is_dust}
use Rattle.vx_cells.specs.Maps.{cell_on}
use Rattle.vx_levels.proofs.Adding.{bare_added, dust_added}
use Rattle.vx_levels.proofs.Keeping.{on_ok_both}
use Rattle.vx_levels.proofs.mapping.add.Goals as goal

pub returns-then-not-lies : goal.returns-then-not-lies
returns-then-not-lies c done =
    let w = cell_on c.args.map.now in
    let none : is_dust (w c.args.p) ≡ false = cc in
    bare_added w c.args.linked.now done c.args.p none

pub returns : goal.returns
returns c =
    let w = cell_on c.args.map.now in
    let p = c.args.p in
    let dust : is_dust (w p) ≡ true = cc in
    on_ok_both c.put.result
    (λ put stay done. dust_added w c.args.linked.now c.put_links.new.self c.put.new.self done p c.links_of.result c.at.result dust
    c.in_ok-put_links.ensures.links c.in_ok-put_links.ensures.level put stay
    c.links_of.ensures.links (c.at.ensures.value ∙ c.requires p))
    c.put.ensures.level c.put.ensures.links
