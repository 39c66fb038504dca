use Rattle.std.proofs.Common.{option_map, ap, ◌∙◌}
use Rattle.vx_region.specs.declared.region_no.RegionNo.{RegionNo}
use Rattle.vx_region.proofs.Counting.{orphan_in, child_in}
use Rattle.vx_region.proofs.Lookups.{known_found}
use Rattle.vx_region.proofs.region_set.RegionSet.children_with.Goals as goal

pub returns-in_default : goal.returns-in_default
returns-in_default c w has =
    let rs = c.args.self.now in
    orphan_in c.args.number.0 w rs.entries c.in_ok-children.children (known_found c.args.number.0 rs c.requires.known) c.in_ok-children.ensures
    (has ∙ ap (option_map (λ (n : RegionNo). n.0)) c.in_default.is)

pub returns : goal.returns
returns c w has =
    let rs = c.args.self.now in
    child_in c.args.number.0 w rs.entries c.in_ok-children.children (known_found c.args.number.0 rs c.requires.known) c.in_ok-children.ensures c.in-Some.parent.0 c.id_of.result
    c.add.new.self (has ∙ ap (option_map (λ (n : RegionNo). n.0)) c.in-Some.is) c.id_of.ensures c.in_ok-add.ensures.ok
