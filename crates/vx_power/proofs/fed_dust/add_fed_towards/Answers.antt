use Rattle.std.proofs.Common.{true, false, ◌&&◌, ◌++◌, sym, ap, ◌∙◌}
use Rattle.std.proofs.lemmas.Bool.{false_from_ne_true}
use Rattle.std.proofs.lemmas.List.{append_assoc, append-nil}
use Rattle.std.proofs.lemmas.Result.{on_ok_weaker}
use Rattle.std.specs.Option.{option_to_list}
use Rattle.vx_block.specs.Conductors.{conducts}
use Rattle.vx_cells.specs.Maps.{cell_on}
use Rattle.vx_geom.specs.Neighbor.{neighbor}
use Rattle.vx_power.specs.Signals.{drives}
use Rattle.vx_power.specs.Spreading.{dust_at, each_dir}
use Rattle.vx_power.proofs.Turning.{towards_on}
use Rattle.vx_power.proofs.fed_dust.add_fed_towards.Goals as goal

pub returns-in-Some : goal.returns-in-Some
returns-in-Some c =
    let w = cell_on c.args.map.now in
    let old = c.args.list.now.items in
    let given = option_to_list c.dust_given.result in
    on_ok_weaker c.add_around.result
    (λ added. added
    ∙ ap (λ ps. ps ++ each_dir (dust_at w c.in-Some.block)) c.in_ok-add_found.ensures
    ∙ append_assoc old given (each_dir (dust_at w c.in-Some.block))
    ∙ ap (λ q. old ++ (given ++ each_dir (dust_at w q))) c.in-Some.ensures.1
    ∙ ap (λ ps. old ++ ps)
    (towards_on w c.args.p c.args.dir c.args.cell.now true given c.requires c.in-Some.ensures.0 c.dust_given.ensures.found))
    c.add_around.ensures

pub returns-in-None : goal.returns-in-None
returns-in-None c =
    let w = cell_on c.args.map.now in
    let given = option_to_list c.dust_given.result in
    c.in_ok-add_found.ensures
    ∙ ap (λ ps. c.args.list.now.items ++ ps)
    (sym (append-nil given)
    ∙ towards_on w c.args.p c.args.dir c.args.cell.now false given c.requires
    (false_from_ne_true (drives c.args.cell.now c.args.dir && conducts (w (neighbor c.args.p c.args.dir))) c.in-None.ensures)
    c.dust_given.ensures.found)
