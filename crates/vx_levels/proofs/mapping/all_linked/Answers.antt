use Rattle.std.proofs.Common.{[], sym, subst}
use Rattle.vx_cells.specs.Maps.{cell_on}
use Rattle.vx_levels.specs.Repairs.{IsRightAt}
use Rattle.vx_levels.proofs.Adding.{all_added, begun_at_none}
use Rattle.vx_levels.proofs.mapping.all_linked.Goals as goal

pub returns : goal.returns
returns c =
    let w = cell_on c.args.map.now in
    all_added w c.add_all.new.linked c.args.places.now c.requires
    (c.in_ok-add_all.ensures [] (subst (λ table. IsRightAt w table []) (sym c.new-linked.ensures) (begun_at_none w)))
