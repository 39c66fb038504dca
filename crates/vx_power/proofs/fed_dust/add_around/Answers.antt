use Rattle.std.proofs.Common.{sym, ap, ◌++◌, ◌∙◌}
use Rattle.std.proofs.lemmas.List.{append-nil}
use Rattle.vx_geom.specs.Dirs.{all_dirs}
use Rattle.vx_cells.specs.Maps.{cell_on}
use Rattle.vx_power.specs.Spreading.{dust_at}
use Rattle.vx_power.proofs.Reaching.{all_dirs_give, list_all, list_more}
use Rattle.vx_power.proofs.fed_dust.add_around.Goals as goal

pub loop-dir-init : goal.loop-dir-init
loop-dir-init c = sym (append-nil c.args.list.now.items)

pub loop-dir-preserved : goal.loop-dir-preserved
loop-dir-preserved c =
    list_more (dust_at (cell_on c.args.map.now) c.args.p) all_dirs c.loop-dir.dir-index _ c.args.list.now.items
    c.loop-dir-test.true
    c.loop-dir.invariant (c.in_ok-add_found.ensures ∙ ap (λ ps. c.loop-dir.list.items ++ ps) c.dust_at.ensures.found)

pub returns : goal.returns
returns c =
    list_all (dust_at (cell_on c.args.map.now) c.args.p) all_dirs c.loop-dir.dir-index _ c.args.list.now.items c.loop-dir-test.false
    (all_dirs_give (dust_at (cell_on c.args.map.now) c.args.p)) c.loop-dir.invariant
